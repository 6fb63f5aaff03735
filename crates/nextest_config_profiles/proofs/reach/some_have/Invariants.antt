use Rattle.std.proofs.Common.{◌≡◌}
use Rattle.nextest_config_profiles.specs.Reach.{words_of}
use Rattle.nextest_config_profiles.specs.Said.{Path, silent}
use Rattle.nextest_config_profiles.proofs.MergedOver.{over_first}
use Rattle.nextest_config_profiles.proofs.reach.some_have.Given as goal

-- the layers so far come to nothing
abbrev pub invariant-loop-layer : goal.invariant-loop-layer
invariant-loop-layer l = (below : Path) → over_first l.layers (words_of l.path) l.layer-index below ≡ silent
