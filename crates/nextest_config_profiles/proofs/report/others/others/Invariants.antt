use Rattle.std.proofs.Common.{take}
use Rattle.nextest_config_profiles.specs.Reach.{words_of}
use Rattle.nextest_config_profiles.specs.Report.Others.{IsOther}
use Rattle.nextest_config_profiles.specs.Report.Somes.{AreSomes}
use Rattle.nextest_config_profiles.proofs.report.others.others.Given as goal

-- the keys so far
abbrev pub invariant-loop-key : goal.invariant-loop-key
invariant-loop-key l = AreSomes (IsOther l.fn.effective) (words_of (take l.key-index l.key-items)) l.others.items
