use Rattle.std.proofs.Common.{◌≡◌, map}
use Rattle.std.specs.List.{AllByRecursion}
use Rattle.nextest_config_profiles.specs.Leaves.{IsLeafBelow, IsOfLayers, placed, placed_leaf}
use Rattle.nextest_config_profiles.specs.Reach.{layers_of, words_of}
use Rattle.nextest_config_profiles.proofs.leaves.with_layers.Given as goal

-- those so far have their layers, and those that are left are leaves of the layers
abbrev pub invariant-loop-leaf : goal.invariant-loop-leaf
invariant-loop-leaf l =
    AllByRecursion (IsLeafBelow (layers_of l.layers) (words_of l.path)) l.found.items
    × (map placed l.found.items ≡ map placed_leaf l.yielded)
    × AllByRecursion (λ leaf. IsOfLayers (layers_of l.layers) (words_of l.path) (placed_leaf leaf)) l.leaf-iterator.rest.items
