use Rattle.std.proofs.Common.{map, string_bytes, take}
use Rattle.std.specs.List.{AllZip}
use Rattle.nextest_config_profiles.specs.Report.Chain.{IsChainProfile}
use Rattle.nextest_config_profiles.proofs.report.chain.chain.Given as goal

-- the profiles so far
abbrev pub invariant-loop-name : goal.invariant-loop-name
invariant-loop-name l = AllZip (IsChainProfile l.fn.effective) (map string_bytes (take l.name-index l.names)) l.chain.items
