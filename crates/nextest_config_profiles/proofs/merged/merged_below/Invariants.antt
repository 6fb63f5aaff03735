use Rattle.std.proofs.Common.{◌≡◌, option_map}
use Rattle.toml.specs.View.{view}
use Rattle.nextest_config_profiles.specs.Merging.{seen_at}
use Rattle.nextest_config_profiles.specs.Reach.{words_of}
use Rattle.nextest_config_profiles.specs.Said.{Path}
use Rattle.nextest_config_profiles.proofs.MergedOver.{over_first}
use Rattle.nextest_config_profiles.proofs.merged.merged_below.Given as goal

-- what is merged so far is what the layers so far come to
abbrev pub invariant-loop-layer : goal.invariant-loop-layer
invariant-loop-layer l =
    (below : Path) → seen_at below (option_map view l.merged) ≡ over_first l.layers (words_of l.path) l.layer-index below
