-- What a path leads to, and of which piece of it a range is.
use Rattle.std.proofs.Common.{◌≡◌, ℕ, List, [], ◌∷◌, ◌++◌, Option, Some, option_and_then, option_map, refl, ◌∙◌, rules}
use Rattle.std.proofs.lemmas.Option.{none-some, option_and_then_some}
use Rattle.toml_spans.specs.Entry.{Branches, get_branch, Piece, Pieces, pieces_of, Tree, tree_at, tree_below, tree_from}
use Rattle.toml_spans.specs.Ranges.{Range, range_of, ranges_of}
use Rattle.toml_spans.specs.Step.{index, key, PathStep}
use Rattle.toml_spans.proofs.Steps.{follow_path_on}

-- the tree that a path leads to, and its piece of this kind, which has this range
pub record IsOfPiece (bytes : ℕ) (root : Branches) (which : Pieces → Option Piece) (path : List PathStep) (range : Range) : Type 0 where
  pub tree : Tree
  pub leads : tree_at root path ≡ Some tree
  pub spot : Piece
  pub has : which (pieces_of tree) ≡ Some spot
  pub same : range_of bytes spot ≡ range

of_piece : (bytes : ℕ) (root : Branches) (which : Pieces → Option Piece) (path : List PathStep) (range : Range)
    → option_and_then (λ t. option_map (range_of bytes) (which (pieces_of t))) (tree_at root path) ≡ Some range
    → IsOfPiece bytes root which path range
of_piece bytes root which path range is = search rules

module _ (bytes : ℕ) (root : Branches) (path : List PathStep) (range : Range) where
  pub of_key : (ranges_of bytes root).of_key path ≡ Some range → IsOfPiece bytes root (λ p. p.of_key) path range
  of_key is = of_piece bytes root (λ p. p.of_key) path range is

  pub of_value : (ranges_of bytes root).of_value path ≡ Some range → IsOfPiece bytes root (λ p. p.of_value) path range
  of_value is = of_piece bytes root (λ p. p.of_value) path range is

-- ---- paths

-- no step more
pub itself : (o : Option Tree) → option_and_then (tree_below []) o ≡ o
itself o = search rules

-- after steps that lead to a tree
pub at_on : (root : Branches) (path rest : List PathStep) (u : Tree) → tree_at root path ≡ Some u → tree_at root (path ++ rest) ≡ tree_below rest u
at_on root path rest u leads = follow_path_on tree_from (λ text. get_branch text root) path rest u leads

-- what the last of some steps leads from
pub record ComesFrom (o : Option Tree) (step : PathStep) (u : Tree) : Type 0 where
  pub before : Tree
  pub leads : o ≡ Some before
  pub from : tree_from before step ≡ Some u

below_from : (path : List PathStep) (step : PathStep) (t u : Tree) → tree_below (path ++ (step ∷ [])) t ≡ Some u → ComesFrom (tree_below path t) step u
below_from [] step t u is = option_and_then_some (tree_below []) (tree_from t step) u is (λ next from below. record { before = t; leads = refl; from = from ∙ below })
below_from (first ∷ path) step t u is = option_and_then_some (tree_below (path ++ (step ∷ []))) (tree_from t first) u is (λ next from below. rw from (below_from path step next u below))

pub from_last : (root : Branches) (k : List ℕ) (path : List PathStep) (step : PathStep) (u : Tree) → tree_at root ((key k ∷ path) ++ (step ∷ [])) ≡ Some u → ComesFrom (tree_at root (key k ∷ path)) step u
from_last root k path step u is = option_and_then_some (tree_below (path ++ (step ∷ []))) (get_branch k root) u is (λ next from below. rw from (below_from path step next u below))

pub at_from : (root : Branches) (path : List PathStep) (i : ℕ) (u : Tree) → tree_at root (path ++ (index i ∷ [])) ≡ Some u → ComesFrom (tree_at root path) (index i) u
at_from root [] i u is = absurd (none-some u is)
at_from root (index j ∷ path) i u is = absurd (none-some u is)
at_from root (key k ∷ path) i u is = from_last root k path (index i) u is
