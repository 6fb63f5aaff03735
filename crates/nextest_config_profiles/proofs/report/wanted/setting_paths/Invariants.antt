use Rattle.std.proofs.Common.{◌≡◌, flat_map, map, string_bytes, take}
use Rattle.nextest_config_profiles.specs.Report.Setting.{rule_owned}
use Rattle.nextest_config_profiles.specs.Report.Wanted.{dotted, paths_of}
use Rattle.nextest_config_profiles.proofs.report.wanted.setting_paths.Given as goal

-- the paths of the settings so far
abbrev pub invariant-loop-setting : goal.invariant-loop-setting
invariant-loop-setting l = map string_bytes l.paths.items ≡ map dotted (flat_map paths_of (map rule_owned (take l.setting-index l.setting-items)))
