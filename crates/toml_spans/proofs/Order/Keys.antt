-- A tree after its key.
use Rattle.std.proofs.Common.{◌≡◌, Some, sym, ◌∙◌, rules}
use Rattle.toml_spans.specs.Entry.{after_key, Piece, pieces_of, Tree, tree_from}
use Rattle.toml_spans.specs.Step.{PathStep}
use Rattle.toml_spans.proofs.Order.Holds.{holds_from, holds_steps, HoldsBelow}

-- the same stands below it
pub behind_from : (k : Piece) (t : Tree) (step : PathStep) → tree_from (after_key k t) step ≡ tree_from t step
behind_from k t step = search rules

-- it has the value that it had
pub after_value : (k : Piece) (t : Tree) → (pieces_of (after_key k t)).of_value ≡ (pieces_of t).of_value
after_value k t = search rules

-- and has that key
pub after_is_key : (k : Piece) (t : Tree) → (pieces_of (after_key k t)).of_key ≡ Some k
after_is_key k t = search rules

-- so what holds below still does
pub holds_after_key : (P : Tree → Type 0) (k : Piece) (t : Tree) → P (after_key k t) → HoldsBelow P t → HoldsBelow P (after_key k t)
holds_after_key P k t here holds = holds_steps (after_key k t) here (λ step u is. holds_from step (sym (behind_from k t step) ∙ is) holds)
