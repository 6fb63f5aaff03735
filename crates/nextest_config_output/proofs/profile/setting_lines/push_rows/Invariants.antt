use Rattle.std.proofs.Common.{◌≡◌, ◌++◌, flat_map, map, take}
use Rattle.nextest_config_output.specs.Profile.SourcedLine.{line_of}
use Rattle.nextest_config_output.specs.Profile.SettingLines.{row_lines}
use Rattle.nextest_config_output.proofs.profile.setting_lines.push_rows.Given as goal

-- the lines of the keys so far are pushed
abbrev pub invariant-loop-row : goal.invariant-loop-row
invariant-loop-row l =
    map line_of l.lines.items
    ≡ map line_of l.fn.lines.items ++ flat_map (row_lines l.name) (take l.row-index l.rows)
