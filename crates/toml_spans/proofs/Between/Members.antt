-- Keys below a value stand after a brace, a comma or a dot, and blanks.
use Rattle.std.proofs.Common.{◌≡◌, ℕ, ◌==◌, false, List, [], ◌∷◌, ◌++◌, length, drop, Some, None, refl, sym, ap, subst, ◌∙◌, inl, rules}
use Rattle.std.proofs.lemmas.Option.{none-some, option_and_then_some, same_Some}
use Rattle.toml_parser.specs.Lexical.{first, skip_blank}
use Rattle.toml_spans.specs.Entry.{after_key, array, Branches, inline, Piece, piece, pieces_of, scalar, Tree, tree_below, tree_from}
use Rattle.toml_spans.specs.Ranges.{IsAfterMark, IsFrom, MembersStand, Range, range_of, ranges_of}
use Rattle.toml_spans.specs.Step.{PathStep}
use Rattle.toml_spans.specs.Value.{pair_tree, value_tree}
use Rattle.toml_spans.proofs.Between.Marks.{after_marked, equals_marked, IsMarked, StartsMarked}
use Rattle.toml_spans.proofs.Between.Ranges.{range_begins}
use Rattle.toml_spans.proofs.Found.{Found, found_none, found_some, found_weaker}
use Rattle.toml_spans.proofs.Order.Changes.{IsKept, put_keeps, valueless_kept}
use Rattle.toml_spans.proofs.Order.Holds.{holds_along, holds_from, holds_nowhere, holds_of_none, holds_pushed, holds_tree, HoldsAmong, HoldsBelow, HoldsIn}
use Rattle.toml_spans.proofs.Order.Keys.{after_is_key, behind_from, holds_after_key}
use Rattle.toml_spans.proofs.Pieces.{at_on, of_key, of_value}
use Rattle.toml_spans.proofs.Trees.Holding.{IsHeld, pair_value_holds}
use Rattle.toml_spans.proofs.Trees.Rests.{begins_with, from_rest, rest_blank, rest_dropped, rest_on}
use Rattle.toml_spans.proofs.Trees.Stands.{IsRest}

-- ---- trees

-- the key of a tree stands so, if it has one
abbrev pub KeyMarked : List ℕ → Tree → Type 0
KeyMarked text t = Found (pieces_of t).of_key (IsMarked text)

-- tables at such keys keep it
keys_kept : (text : List ℕ) → IsKept (KeyMarked text) (KeyMarked text) (IsMarked text) (IsMarked text)
keys_kept text = search rules

-- what steps lead to holds it below, too
holds_deep : (P : Tree → Type 0) (path : List PathStep) (t u : Tree) → tree_below path t ≡ Some u → HoldsBelow P t → HoldsBelow P u
holds_deep P [] t u is holds = subst (HoldsBelow P) (same_Some t u is) holds
holds_deep P (step ∷ path) t u is holds = option_and_then_some (tree_below path) (tree_from t step) u is (λ next from below. holds_deep P path next u below (holds_from step from holds))

-- all keys below a value stand so
pub record BelowMarked (text : List ℕ) (t : Tree) : Type 0 where
  pub each : (v : Piece) (step : PathStep) (u : Tree) → (pieces_of t).of_value ≡ Some v → tree_from t step ≡ Some u → HoldsBelow (KeyMarked text) u

-- where there is no value, none need to
pub below_kept : (text : List ℕ) → IsKept (BelowMarked text) (BelowMarked text) (λ k. Unit {0}) (λ k. Unit {0})
below_kept text = valueless_kept (BelowMarked text) (λ t none. record { each = λ v step u is from. absurd (none-some v (sym none ∙ is)) })

-- where all keys stand so, those below each value do, after a key of any kind
below_after : (text : List ℕ) (k : Piece) (t : Tree) → HoldsBelow (KeyMarked text) t → HoldsBelow (BelowMarked text) (after_key k t)
below_after text k t holds = holds_after_key (BelowMarked text) k t
    (record { each = λ v step u is from. holds_from step (sym (behind_from k t step) ∙ from) holds })
    (record { each = λ path u is. record { each = λ v step w has from. holds_from step from (holds_deep (KeyMarked text) path t u is holds) } })

-- ---- values

-- all keys in a value stand so
marked_held : (text : List ℕ) → IsHeld text (λ s t rest. HoldsBelow (KeyMarked text) t) (λ s ts now. HoldsAmong (KeyMarked text) ts)
    (λ s bs now. HoldsIn (KeyMarked text) bs × ((first (skip_blank now) == 125) ≡ false → StartsMarked text (skip_blank now)))
marked_held text = record {
  scalars = λ s rest d up is. holds_tree (scalar None (piece s rest)) found_none tt;
  no_elements = λ s from. holds_of_none;
  elements = λ s now after next found t up holds read marked is. holds_pushed found t holds marked;
  arrays = λ s now found up opens holds closes. holds_tree (array None (piece s (drop 1 (skip_blank now))) found) found_none holds;
  no_members = λ s from opens. (
    holds_nowhere,
    λ _. record {
      mark = 123;
      behind = drop 1 s;
      from = subst (IsRest text) (begins_with 123 s refl opens) from;
      is_mark = inl refl;
      begins = refl;
    },
  );
  members = λ s now at after next k found t up holds more key read marked is.
      let start_from : IsRest text (skip_blank now) = rest_on (rest_on up.from up.on) (rest_blank now) in
      let parts = (equals_marked text (skip_blank now) start_from (holds.1 more)).each (k, at) key in
      let here : KeyMarked text (after_key k.1.1 t) = rw (after_is_key k.1.1 t) (found_some k.1.1 parts.1) in
      let value = holds_after_key (KeyMarked text) k.1.1 t here marked in
      found_weaker ((put_keeps _ _ _ _ (keys_kept text) (λ l is. is) k t parts.0 parts.1 value).each found holds.0)
      (λ grown still. (still, after_marked text after next (rest_on read.from read.left) is));
  inlines = λ s now found up other holds. holds_tree (inline None (piece s (drop 1 (skip_blank now))) found) found_none holds.0;
}

-- the value of a pair
pub pair_value_marked : (text s : List ℕ) → IsRest text s → Found (pair_tree (value_tree 80) s) (λ p. HoldsBelow (BelowMarked text) (after_key p.0.0.1.1 p.0.1))
pair_value_marked text s from =
    found_weaker (pair_value_holds text _ _ _ (marked_held text) s from) (λ p pair_read. below_after text p.0.0.1.1 p.0.1 pair_read.holds)

-- ---- ranges

-- a marked piece begins after its mark
marked_from : (text : List ℕ) (q : Piece) (range : Range) → range_of (length text) q ≡ range → IsMarked text q → IsAfterMark text range.0
marked_from text q range is at =
    let starts = at.marked in
    let after : IsRest text (skip_blank starts.behind) = rest_on (rest_on starts.from (rest_dropped 1 (starts.mark ∷ starts.behind))) (rest_blank starts.behind) in
    let place = range_begins (length text) q range (length (skip_blank starts.behind)) is (at.begins ∙ ap length starts.begins) in
    record {
      before = starts.from.front;
      mark = starts.mark;
      behind = starts.behind;
      whole = starts.from.cut;
      is_mark = starts.is_mark;
      begins = subst (λ (n : ℕ). IsFrom text n (skip_blank starts.behind)) (sym place) (from_rest text (skip_blank starts.behind) after);
    }

-- each key below a value stands so
pub keys_marked : (text : List ℕ) (root : Branches) → HoldsIn (BelowMarked text) root → MembersStand text (ranges_of (length text) root)
keys_marked text root holds path rest step whole one is_value is_key =
    let of = of_value (length text) root path whole is_value in
    let key = of_key (length text) root (path ++ (step ∷ rest)) one is_key in
    option_and_then_some (tree_below rest) (tree_from of.tree step) key.tree (sym (at_on root path (step ∷ rest) of.tree of.leads) ∙ key.leads) (λ next from below.
    marked_from text key.spot one key.same ((((holds_along root holds path of.tree of.leads).each of.spot step next of.has from).each rest key.tree below).each key.spot key.has))
