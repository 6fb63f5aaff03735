-- In which order the ranges of a document stand.
use Rattle.std.proofs.Common.{◌≡◌, ◌⊎◌, ℕ, ◌<◌, ◌≤◌, List, [], ◌∷◌, ◌++◌, Option, Some, refl, sym, subst, ◌∙◌, inl, inr, arith, rules}
use Rattle.std.proofs.lemmas.Option.{none-some, option_and_then_some, same_Some}
use Rattle.toml.specs.Tables.{header}
use Rattle.toml_spans.specs.Entry.{array, Branches, elements, Piece, Pieces, pieces_of, table, tables, Tree, tree_at, tree_below, tree_from, Trees}
use Rattle.toml_spans.specs.Ranges.{AreApartOrNested, LiesWithin, LieWithinValues, Precedes, Range, range_of, ranges_of, StandInTurn}
use Rattle.toml_spans.specs.Step.{index, PathStep}
use Rattle.toml_spans.proofs.Order.Bounds.{PiecesWithin, Within}
use Rattle.toml_spans.proofs.Order.Holds.{holds_along, no_values_more}
use Rattle.toml_spans.proofs.Order.Settled.{Apart, in_order_more, InOrder, IsSound, KeyEndsBefore, TablesInTurn, ValueIn}
use Rattle.toml_spans.proofs.Order.Walks.{RootSettled}
use Rattle.toml_spans.proofs.Pieces.{at_from, at_on, IsOfPiece, of_key, of_value}

-- ---- ranges

-- a piece that ends where another begins, or before, has a range that does
precede : (bytes : ℕ) (p q : Piece) (one other : Range) → range_of bytes p ≡ one → range_of bytes q ≡ other → q.0 ≤ p.1 → one.1 ≤ other.0
precede bytes p q one other e f before = rw (← e, ← f) (omega (arith, before))

-- and one that lies within another
within : (bytes : ℕ) (p q : Piece) (one other : Range) → range_of bytes p ≡ one → range_of bytes q ≡ other → Within q.0 q.1 p → LiesWithin one other
within bytes p q one other e f lies = rw (← e, ← f) (omega (arith, lies.begins), omega (arith, lies.ends))

module _ (bytes n : ℕ) (root : Branches) (settled : RootSettled n root) where
  -- ---- within values

  encloses : (t : Tree) (v : Piece) → IsSound n t → (pieces_of t).of_value ≡ Some v → (rest : List PathStep) (u : Tree) → tree_below rest t ≡ Some u → (rest ≡ []) ⊎ PiecesWithin v.0 v.1 u
  encloses t v sound is [] u leads = inl refl
  encloses t v sound is (step ∷ rest) u leads = inr (option_and_then_some (tree_below rest) (tree_from t step) u leads (λ next from below. (sound.encloses v step next is from).each rest u below))

  piece_within : (of_value : Range) (v : Piece) (path rest : List PathStep) (t : Tree) (range : Range) (which : Pieces → Option Piece) → tree_at root path ≡ Some t → (pieces_of t).of_value ≡ Some v
      → range_of bytes v ≡ of_value → ((u : Tree) (p : Piece) → PiecesWithin v.0 v.1 u → which (pieces_of u) ≡ Some p → Within v.0 v.1 p) → IsOfPiece bytes root which (path ++ rest) range
      → (rest ≡ []) ⊎ ((of_value.0 ≤ range.0) × (range.1 ≤ of_value.1))
  piece_within of_value v path rest t range which leads is e lies of =
      elim (encloses t v (holds_along root settled.sound path t leads) is rest of.tree (sym (at_on root path rest t leads) ∙ of.leads)) [
        | inl none ↦ inl none
        | inr lie ↦ inr (within bytes of.spot v range of_value of.same e (lies of.tree of.spot lie of.has))
      ]

  -- what stands below a value lies within it
  pub values_enclose : LieWithinValues (ranges_of bytes root)
  values_enclose path rest whole range is below =
      let v = of_value bytes root path whole is in
      elim below [
        | inl of_key_too ↦ piece_within whole v.spot path rest v.tree range (λ p. p.of_key) v.leads v.has v.same
            (λ u p lie at. lie.of_key.each p at) (of_key bytes root (path ++ rest) range of_key_too)
        | inr of_value_too ↦ piece_within whole v.spot path rest v.tree range (λ p. p.of_value) v.leads v.has v.same
            (λ u p lie at. lie.of_value.each p at) (of_value bytes root (path ++ rest) range of_value_too)
      ]

  -- ---- in turn

  -- their keys stand in order
  elements_in_order : (done : Trees) (last : Piece) (bs : Branches) → TablesInTurn n done last → InOrder KeyEndsBefore (elements done last bs)
  elements_in_order done last bs turn = in_order_more KeyEndsBefore done (table last header bs) turn.order
      (λ i x is. record { each = λ k l at other. subst (λ (q : Piece). q.0 ≤ k.1) (same_Some last l other) (turn.before i x k is at) })

  value_turns : (t : Tree) → IsSound n t → (i j : ℕ) (x y : Tree) → i < j → tree_from t (index i) ≡ Some x → tree_from t (index j) ≡ Some y → (v w : Piece) → (pieces_of x).of_value ≡ Some v
      → (pieces_of y).of_value ≡ Some w → w.0 ≤ v.1
  value_turns (array k p ts) sound i j x y before is other v w one two = (sound.in_turn.order.each i j x y before is other).each v w
      (record { path = []; value = x; leads = refl; is = one }) (record { path = []; value = y; leads = refl; is = two })
  value_turns (tables k done last bs) sound i j x y before is other v w one two = absurd (none-some v (sym (no_values_more done last bs sound.in_turn.no_values i x is) ∙ one))
  value_turns t sound i j x y before is other v w one two = absurd (none-some x is)

  key_turns : (t : Tree) → IsSound n t → (i j : ℕ) (x y : Tree) → i < j → tree_from t (index i) ≡ Some x → tree_from t (index j) ≡ Some y → (k l : Piece) → (pieces_of x).of_key ≡ Some k
      → (pieces_of y).of_key ≡ Some l → l.0 ≤ k.1
  key_turns (array m p ts) sound i j x y before is other k l one two = absurd (none-some k (sym (sound.in_turn.no_keys i x is) ∙ one))
  key_turns (tables m done last bs) sound i j x y before is other k l one two = ((elements_in_order done last bs sound.in_turn).each i j x y before is other).each k l one two
  key_turns t sound i j x y before is other k l one two = absurd (none-some x is)

  -- pieces of two elements, where those of such a kind stand in turn
  turns : (which : Pieces → Option Piece) → ((t : Tree) → IsSound n t → (i j : ℕ) (x y : Tree) → i < j → tree_from t (index i) ≡ Some x → tree_from t (index j) ≡ Some y → (v w : Piece)
      → which (pieces_of x) ≡ Some v → which (pieces_of y) ≡ Some w → w.0 ≤ v.1) → (path : List PathStep) (i j : ℕ) (one other : Range) → i < j
      → IsOfPiece bytes root which (path ++ (index i ∷ [])) one → IsOfPiece bytes root which (path ++ (index j ∷ [])) other → one.1 ≤ other.0
  turns which turn path i j one other before first second =
      let x = at_from root path i first.tree first.leads in
      let y = at_from root path j second.tree second.leads in
      let same : y.before ≡ x.before = same_Some y.before x.before (sym y.leads ∙ x.leads) in
      precede bytes first.spot second.spot one other first.same second.same (turn x.before (holds_along root settled.sound path x.before x.leads) i j first.tree second.tree before x.from
      (subst (λ (t : Tree). tree_from t (index j) ≡ Some second.tree) same y.from) first.spot second.spot first.has second.has)

  -- elements stand in the order of their indexes
  pub elements_stand_in_turn : StandInTurn (ranges_of bytes root)
  elements_stand_in_turn = record {
    values = λ path i j one other before first second. turns (λ p. p.of_value) value_turns path i j one other before
        (of_value bytes root (path ++ (index i ∷ [])) one first) (of_value bytes root (path ++ (index j ∷ [])) other second);
    headers = λ path i j one other before first second. turns (λ p. p.of_key) key_turns path i j one other before
        (of_key bytes root (path ++ (index i ∷ [])) one first) (of_key bytes root (path ++ (index j ∷ [])) other second);
  }

  -- ---- apart

  value_at : (path : List PathStep) (range : Range) (of : IsOfPiece bytes root (λ p. p.of_value) path range) → ValueIn root of.spot
  value_at path range of = record { path = path; value = of.tree; leads = of.leads; is = of.has }

  apart_ranges : (p q : Piece) (one other : Range) → range_of bytes p ≡ one → range_of bytes q ≡ other → Apart p q
      → (Precedes one other ⊎ Precedes other one) ⊎ (LiesWithin one other ⊎ LiesWithin other one)
  apart_ranges p q one other e f apart = search (rules, precede, within)

  -- the ranges of two values are apart or one within the other
  pub values_apart : AreApartOrNested (ranges_of bytes root)
  values_apart path other_path one other first second =
      let of_one = of_value bytes root path one first in
      let of_other = of_value bytes root other_path other second in
      apart_ranges of_one.spot of_other.spot one other of_one.same of_other.same
      (settled.apart of_one.spot of_other.spot (value_at path one of_one) (value_at other_path other of_other))
