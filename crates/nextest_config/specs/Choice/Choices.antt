-- A tree over a list of leaves, whose nodes keep the choice of each half.
use Rattle.std.specs.Prelude.{◌≡◌, ◌-◌, ◌/◌, ◌≤◌, List, get_or, take, drop, length}
use Rattle.nextest_config.specs.Merge.{total}

-- the nodes of a tree over the leaves: those of the first half, the node of the whole, and those of
-- the second half; each keeps the choice over its leaves
pub data HoldsChoices {X : Type 0} (choice : X → X → X) (none : X) : List X → List X → Type 0 where
  undivided : {leaves nodes : List X} → length leaves ≤ 1 → HoldsChoices choice none leaves nodes
  halved : {leaves nodes : List X} → 2 ≤ length leaves
      → get_or nodes (length leaves / 2 - 1) none ≡ total choice none leaves
      → HoldsChoices choice none (take (length leaves / 2) leaves)
      (take (length leaves / 2 - 1) nodes)
      → HoldsChoices choice none (drop (length leaves / 2) leaves) (drop (length leaves / 2) nodes)
      → HoldsChoices choice none leaves nodes
