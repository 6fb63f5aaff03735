use Rattle.std.proofs.Common.{map, string_bytes, take}
use Rattle.std.specs.List.{AllByRecursion}
use Rattle.nextest_config_profiles.specs.Report.Others.{PassesOther}
use Rattle.nextest_config_profiles.proofs.report.others.other.Given as goal

-- none of the profiles so far has it
abbrev pub invariant-loop-profile : goal.invariant-loop-profile
invariant-loop-profile l = AllByRecursion (PassesOther l.fn.effective l.fn.key) (map string_bytes (take l.profile-index l.chain))
