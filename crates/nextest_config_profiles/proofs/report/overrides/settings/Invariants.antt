use Rattle.std.proofs.Common.{take}
use Rattle.toml.specs.View.{view}
use Rattle.nextest_config_profiles.specs.Reach.{words_of}
use Rattle.nextest_config_profiles.specs.Report.Overrides.{IsSet}
use Rattle.nextest_config_profiles.specs.Report.Somes.{AreSomes}
use Rattle.nextest_config_profiles.proofs.report.overrides.settings.Given as goal

-- the keys so far
abbrev pub invariant-loop-key : goal.invariant-loop-key
invariant-loop-key l = AreSomes (IsSet (view l.fn.value)) (words_of (take l.key-index l.key-items)) l.settings.items
