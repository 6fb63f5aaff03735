use Rattle.std.proofs.Common.{map, take}
use Rattle.std.specs.List.{AllZip}
use Rattle.nextest_config_profiles.specs.Reach.{words_of}
use Rattle.nextest_config_profiles.specs.Report.OtherProfiles.{AreFaultsOf}
use Rattle.nextest_config_profiles.specs.Report.Rows.{AreRows}
use Rattle.nextest_config_profiles.specs.Report.Setting.{rule_owned}
use Rattle.nextest_config_profiles.specs.Report.Somes.{AreLists}
use Rattle.nextest_config_profiles.proofs.report.profile_report.settings_report.Given as goal

-- the settings so far
abbrev pub invariant-loop-setting : goal.invariant-loop-setting
invariant-loop-setting l =
    AllZip (AreRows l.fn.effective l.fn.shows_hidden) (map rule_owned (take l.setting-index l.setting-items)) (map (λ rows. rows.items) l.report.rows.items)
    × AreLists (AreFaultsOf l.fn.effective (words_of l.names.items)) (map rule_owned (take l.setting-index l.setting-items)) l.report.faults.items
