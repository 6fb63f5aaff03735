use Rattle.std.proofs.Common.{option_map, take}
use Rattle.nextest_config_profiles.specs.Profile.{names_of}
use Rattle.nextest_config_profiles.specs.Report.OtherProfiles.{IsFaultOf}
use Rattle.nextest_config_profiles.specs.Report.Setting.{rule_of}
use Rattle.nextest_config_profiles.specs.Report.Somes.{AreSomes}
use Rattle.nextest_config_profiles.proofs.report.other_profiles.faults_of.Given as goal

-- the profiles so far
abbrev pub invariant-loop-profile : goal.invariant-loop-profile
invariant-loop-profile l = AreSomes (IsFaultOf l.fn.effective (rule_of l.fn.setting) (option_map (λ name. name.now) l.giver))
    (names_of (take l.profile-index l.profiles)) l.faults.items
