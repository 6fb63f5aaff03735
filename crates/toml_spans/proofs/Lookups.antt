-- What is found in entries, beside what is found in their trees.
use Rattle.std.proofs.Common.{◌≡◌, ℕ, zero, suc, ◌-◌, ◌<◌, ◌≤◌, List, [], ◌∷◌, drop, get_or, length, map, take, take_all, Option, Some, None, option_and_then, option_map, Bor, refl, ap, ◌∙◌, arith, rules}
use Rattle.std.specs.BTreeMap.{is_at}
use Rattle.std.specs.Map.{lookup}
use Rattle.toml_spans.specs.Entry.{Piece as Spot, get_branch, get_tree, Pieces, pieces_of, push_tree, Tree}
use Rattle.toml_spans.specs.EntryViews.{pairs_of, piece_of, tree_of, trees_from}
use Rattle.toml_spans.specs.Ranges.{range_of}
use Rattle.toml_spans.specs.Step.{step_of}
use Rattle.toml_spans.specs.declared.entry.Entry.{Entry}
use Rattle.toml_spans.specs.declared.entry.Piece.{Piece}
use Rattle.toml_spans.specs.declared.step.Step.{Step}
use Rattle.toml_spans.proofs.Views.{at_text, Pair, tree_of-lookup}

-- the first of some steps, and the rest
pub steps_front : (steps : List Step) (step d : Step) → 1 ≤ length steps → step ≡ get_or steps 0 d
    → map step_of steps ≡ step_of step ∷ map step_of (take (length steps - 1) (drop 1 steps))
steps_front [] step d some same = absurd (omega (arith, some))
steps_front (x ∷ steps) step d some same =
    let all : take (suc (length steps) - 1) steps ≡ steps = take_all _ steps (omega arith) in
    rw (same, all) refl

-- an entry at a key
pub entry_get : (r : Option (Bor Entry)) (k : List ℕ) (es : List Pair) → option_map (λ x. x.now) r ≡ lookup (is_at (at_text k)) es → option_map (λ x. tree_of x.now) r ≡ get_branch k (pairs_of es)
entry_get None k es found = ap (option_map tree_of) found ∙ tree_of-lookup k es
entry_get (Some x) k es found = ap (option_map tree_of) found ∙ tree_of-lookup k es

-- an element at an index
pub element_within : (es : List Entry) (i : ℕ) (d : Entry) → i < length es → get_tree i (trees_from (map tree_of es)) ≡ Some (tree_of (get_or es i d))
element_within [] i d within = absurd (omega (arith, within))
element_within (e ∷ es) zero d within = refl
element_within (e ∷ es) (suc i) d within = element_within es i d (omega (arith, within))

pub element_at : (es : List Entry) (i : ℕ) (x d : Entry) → i < length es → x ≡ get_or es i d → get_tree i (trees_from (map tree_of es)) ≡ Some (tree_of x)
element_at es i x d within is = rw is (element_within es i d within)

pub element_past : (es : List Entry) (i : ℕ) → length es ≤ i → get_tree i (trees_from (map tree_of es)) ≡ None
element_past [] i past = refl
element_past (e ∷ es) zero past = absurd (omega (arith, past))
element_past (e ∷ es) (suc i) past = element_past es i (omega (arith, past))

-- the last one, which stands apart, and the others
pub pushed_at : (es : List Entry) (t : Tree) → get_tree (length es) (push_tree (trees_from (map tree_of es)) t) ≡ Some t
pushed_at [] t = refl
pushed_at (e ∷ es) t = pushed_at es t

pub pushed_else : (es : List Entry) (t : Tree) (i : ℕ) → (i ≡ length es → ⊥) → get_tree i (push_tree (trees_from (map tree_of es)) t) ≡ get_tree i (trees_from (map tree_of es))
pushed_else [] t zero other = absurd (other refl)
pushed_else [] t (suc i) other = refl
pushed_else (e ∷ es) t zero other = refl
pushed_else (e ∷ es) t (suc i) other = pushed_else es t i (λ is. other (ap suc is))

-- the ranges of what a path leads to
pub range_of_found : (which : Pieces → Option Spot) (o : Option Tree) (p : Pieces) (bytes : ℕ) → option_map pieces_of o ≡ Some p
    → option_and_then (λ t. option_map (range_of bytes) (which (pieces_of t))) o ≡ option_map (range_of bytes) (which p)
range_of_found which o p bytes is = search rules

pub range_of_piece : (k : Option Piece) (bytes : ℕ) → option_map (range_of bytes) (option_map piece_of k) ≡ option_map (λ p. range_of bytes (piece_of p)) k
range_of_piece k bytes = search rules
