use Rattle.std.proofs.Common.{◌≡◌, ◌⊎◌, ℕ, List, [], ◌∷◌, ◌++◌}
use Rattle.std.specs.BTreeSet.{btree_set_len}
use Rattle.std.specs.Prelude.{IsUtf8}
use Rattle.nextest_config_profiles.specs.Chain.{IsChain, IsWay}
use Rattle.nextest_config_profiles.specs.Profiles.{HasName, IsProfile, SomeOf}
use Rattle.nextest_config_profiles.specs.Reach.{layers_of, words_of}
use Rattle.nextest_config_profiles.proofs.chain.chain_of.Given as goal

-- the chain so far goes on as that of the current profile; a way leads there; and each profile that
-- isn't left is in the chain so far
abbrev pub invariant-loop-current : goal.invariant-loop-current
invariant-loop-current l =
    ((rest : List (List ℕ)) → IsChain (layers_of l.layers) l.current rest → IsChain (layers_of l.layers) l.name (words_of l.chain.items ++ rest))
    × IsWay (layers_of l.layers) (words_of l.chain.items ++ l.current ∷ [])
    × ((more : List (List ℕ)) × (words_of l.chain.items ++ l.current ∷ [] ≡ l.name ∷ more))
    × IsProfile (layers_of l.layers) l.current
    × ((name : List ℕ) → IsProfile (layers_of l.layers) name → HasName l.left.keys name ⊎ SomeOf (λ other. other ≡ name) (words_of l.chain.items))
    × IsUtf8 l.current

abbrev pub decreases-loop-current : goal.decreases-loop-current
decreases-loop-current l = btree_set_len l.left
