use Rattle.std.proofs.Common.{◌≡◌, map, take}
use Rattle.nextest_config_output.specs.Profile.SourcedLine.{line_of}
use Rattle.nextest_config_output.specs.Profile.SettingLines.{setting_lines}
use Rattle.nextest_config_output.proofs.profile.setting_lines.setting_lines.Given as goal

-- the lines of the settings so far
abbrev pub invariant-loop-rows : goal.invariant-loop-rows
invariant-loop-rows l =
    map line_of l.lines.items ≡ setting_lines l.name (take l.rows-index l.settings)
