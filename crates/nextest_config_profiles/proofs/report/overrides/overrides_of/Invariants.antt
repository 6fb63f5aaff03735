use Rattle.std.proofs.Common.{map, take}
use Rattle.std.specs.List.{AllZip}
use Rattle.nextest_config_profiles.specs.Report.Elements.{element_of}
use Rattle.nextest_config_profiles.specs.Report.Overrides.{IsOverride}
use Rattle.nextest_config_profiles.proofs.report.overrides.overrides_of.Given as goal

-- those so far
abbrev pub invariant-loop-element : goal.invariant-loop-element
invariant-loop-element l = AllZip (IsOverride l.fn.effective) (map element_of (take l.element-index l.elements)) l.overrides.items
