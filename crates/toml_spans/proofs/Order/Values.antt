-- How the pieces of a value stand to one another.
use Rattle.std.proofs.Common.{◌≡◌, ◌⊎◌, ℕ, ◌<◌, ◌≤◌, List, [], length, drop, Option, Some, None, refl, sym, subst, ap, ◌∙◌, inl, inr, arith, rules}
use Rattle.std.proofs.lemmas.Bool.{cases_order}
use Rattle.std.proofs.lemmas.Option.{none-some, same_Some}
use Rattle.toml_spans.proofs.Elements.{all_always}
use Rattle.toml.specs.Tables.{header, Origin}
use Rattle.toml_parser.specs.Lexical.{skip_blank}
use Rattle.toml_spans.specs.Entry.{array, after_key, Branches, get_tree, inline, no_branches, no_trees, Piece, pieces_of, push_tree, scalar, table, tables, Tree, tree_at, tree_from, Trees}
use Rattle.toml_spans.specs.Key.{Parts}
use Rattle.toml_spans.specs.Step.{index, key, PathStep}
use Rattle.toml_spans.specs.Table.{put}
use Rattle.toml_spans.proofs.Order.Bounds.{key_equals_read, parts_wider, PartsWithin, pieces_wider, PiecesWithin, Within, within_wider}
use Rattle.toml_spans.proofs.Found.{Found, found_any, found_none, found_some, found_weaker}
use Rattle.toml_spans.proofs.Trees.Holding.{IsHeld}
use Rattle.toml_spans.proofs.Trees.Keys.{equals_left}
use Rattle.toml_spans.proofs.Trees.Rests.{rest_blank, rest_dropped, rest_element, rest_on, rest_within}
use Rattle.toml_spans.proofs.Trees.Stands.{IsRest}
use Rattle.toml_spans.proofs.Order.Changes.{IsKept, put_keeps, valueless_kept}
use Rattle.toml_spans.proofs.Order.Keys.{behind_from, after_is_key, after_value, holds_after_key}
use Rattle.toml_spans.proofs.Order.Holds.{get_pushed, holds_along, holds_from, holds_here, holds_nowhere, holds_tree, holds_weaker, holds_weaker_in, HoldsBelow, HoldsIn, HoldsUnder, no_values_more}
use Rattle.toml_spans.proofs.Order.Settled.{Apart, AreSettled, EndsBefore, in_order_more, in_order_none, in_turn_later, InTurn, IsSettled, IsSound, KeyEndsBefore, MembersSettled, settled_wider, sound_later, TablesInTurn, value_in, value_lies, own_or_from, ValueBelow, ValueFrom, ValueIn}

-- a value that was read lies between where it was read
whole_within : (a b : ℕ) → b ≤ a → (t : Tree) → pieces_of t ≡ record { of_key = None; of_value = Some (a, b) } → PiecesWithin a b t
whole_within a b runs t is = record { of_key = rw is found_none; of_value = rw is (found_some (a, b) (record { begins = omega arith; turns = runs; ends = omega arith })) }

-- ---- apart

-- values that begin where those before them have ended are apart from them
pub apart_grown : (n a : ℕ) (Old New After : Piece → Type 0) → ((v : Piece) → Old v → n ≤ v.1) → ((v w : Piece) → Old v → Old w → Apart v w)
    → ((v : Piece) → New v → v.0 ≤ a) → ((v w : Piece) → New v → New w → Apart v w) → a ≤ n → ((v : Piece) → After v → Old v ⊎ New v) → (v w : Piece) → After v → After w → Apart v w
apart_grown n a Old New After ended apart h7 apart_new later h10 v w one other = search rules

-- where a tree has a piece of its own and all lies within it, values are apart where those below it are
apart_own : (t : Tree) (a b : ℕ) → (pieces_of t).of_value ≡ Some (a, b) → HoldsBelow (PiecesWithin a b) t → ((v w : Piece) → ValueFrom t v → ValueFrom t w → Apart v w)
    → (v w : Piece) → ValueBelow t v → ValueBelow t w → Apart v w
apart_own t a b own lie apart v w one other =
    elim (own_or_from t v one.path one.value one.leads one.is) [
      | inl here ↦ let e : (a, b) ≡ v = same_Some (a, b) v (rw own at here) in inr (inl (subst (λ (p : Piece). Within p.0 p.1 w) e (value_lies a b t w lie other)))
      | inr below ↦ elim (own_or_from t w other.path other.value other.leads other.is) [
        | inl here ↦ let e : (a, b) ≡ w = same_Some (a, b) w (rw own at here) in inr (inr (subst (λ (p : Piece). Within p.0 p.1 v) e (value_lies a b t v lie one)))
        | inr below_too ↦ apart v w below below_too
      ]
    ]

-- ---- arrays

-- one more element
element_settled : (a n x y : ℕ) (ts : Trees) (t : Tree) → AreSettled a n ts → IsSettled x y t → n ≤ a → x ≤ n → y ≤ x → AreSettled a y (push_tree ts t)
element_settled a n x y ts t are settled within later runs = record {
  each = λ i u is. elim (get_pushed i ts t u is) [
    | inl old ↦ settled_wider a n a y u (omega arith) (omega (arith, later, runs)) (are.each i u old)
    | inr new ↦ subst (IsSettled a y) new (settled_wider x y a y t (omega (arith, within, later)) (omega arith) settled)
  ];
  order = in_order_more EndsBefore ts t are.order (λ i u is. record {
    each = λ v w one other.
        let first : n ≤ v.1 = (value_lies a n u v (are.each i u is).lie one).ends in
        let second : w.0 ≤ x = (value_lies x y t w settled.lie other).begins in
        omega (arith, first, second, later);
  });
}

-- what one step of an array leads to
array_from : (k : Option Piece) (p : Piece) (ts : Trees) (v : Piece) (step : PathStep) (u : Tree) → tree_from (array k p ts) step ≡ Some u → ValueBelow u v → (i : ℕ) × (x : Tree) × (get_tree i ts ≡ Some x) × ValueBelow x v
array_from k p ts v step u from below = search rules

-- what lies within its own piece is settled where that is which stands below it
whole_settled : (a b : ℕ) (t : Tree) → b ≤ a → pieces_of t ≡ record { of_key = None; of_value = Some (a, b) } → HoldsUnder (PiecesWithin a b) t → HoldsUnder (IsSound b) t → InTurn b t
    → ((v w : Piece) → ValueFrom t v → ValueFrom t w → Apart v w) → IsSettled a b t
whole_settled a b t runs is lies sounds turn apart =
    let lie : HoldsBelow (PiecesWithin a b) t = holds_tree t (whole_within a b runs t is) lies in
    let own : (pieces_of t).of_value ≡ Some (a, b) = ap (λ p. p.of_value) is in
    let encloses = λ (v : Piece) (step : PathStep) (u : Tree) (at : (pieces_of t).of_value ≡ Some v) (from : tree_from t step ≡ Some u).
    subst (λ (p : Piece). HoldsBelow (PiecesWithin p.0 p.1) u) (same_Some (a, b) v (sym own ∙ at)) (holds_from step from lie) in
    record {
      no_key = ap (λ p. p.of_key) is;
      lie = lie;
      sound = holds_tree t (record { encloses = encloses; in_turn = turn }) sounds;
      apart = apart_own t a b own lie apart;
    }

-- elements that are settled make an array that is
array_settled : (a b : ℕ) (ts : Trees) → b ≤ a → AreSettled a b ts → IsSettled a b (array None (a, b) ts)
array_settled a b ts runs are =
    whole_settled a b (array None (a, b) ts) runs refl (record { each = λ i x is. (are.each i x is).lie }) (record { each = λ i x is. (are.each i x is).sound })
    (record { no_keys = λ i x is. (are.each i x is).no_key; order = are.order }) (λ v w one other. elements_apart v w
    (array_from None (a, b) ts v one.step one.next one.from one.below) (array_from None (a, b) ts w other.step other.next other.from other.below))
  where
    by_places : (v w : Piece) (i j : ℕ) (x y : Tree) → get_tree i ts ≡ Some x → get_tree j ts ≡ Some y → ValueBelow x v → ValueBelow y w → (i ≡ j) ⊎ ((i < j) ⊎ (j < i)) → Apart v w
    by_places v w i j x y is other one two (inr (inl before)) = inl (inl ((are.order.each i j x y before is other).each v w one two))
    by_places v w i j x y is other one two (inr (inr behind)) = inl (inr ((are.order.each j i y x behind other is).each w v two one))
    by_places v w i j x y is other one two (inl same) =
        (are.each i x is).apart v w one (subst (λ (z : Tree). ValueBelow z w) (same_Some y x (sym other ∙ (ap (λ n. get_tree n ts) (sym same) ∙ is))) two)

    elements_apart : (v w : Piece) → (i : ℕ) × (x : Tree) × (get_tree i ts ≡ Some x) × ValueBelow x v → (j : ℕ) × (y : Tree) × (get_tree j ts ≡ Some y) × ValueBelow y w → Apart v w
    elements_apart v w one other = by_places v w one.0 other.0 one.1 other.1 one.2 other.2 one.3 other.3 (cases_order one.0 other.0)

-- ---- inline tables

after_in_turn : (n : ℕ) (k : Piece) (t : Tree) → InTurn n t → InTurn n (after_key k t)
after_in_turn n k t turn = search rules

pub pieces_after : (a b : ℕ) (k : Piece) (t : Tree) → Within a b k → HoldsBelow (PiecesWithin a b) t → HoldsBelow (PiecesWithin a b) (after_key k t)
pieces_after a b k t lies holds = holds_after_key (PiecesWithin a b) k t
    (record { of_key = rw (after_is_key k t) (found_some k lies); of_value = rw (after_value k t) (holds_here holds).of_value }) holds

pub sound_after : (n : ℕ) (k : Piece) (t : Tree) → HoldsBelow (IsSound n) t → HoldsBelow (IsSound n) (after_key k t)
sound_after n k t holds = holds_after_key (IsSound n) k t
    (record { encloses = λ v step u is from. (holds_here holds).encloses v step u (sym (after_value k t) ∙ is) (sym (behind_from k t step) ∙ from); in_turn = after_in_turn n k t (holds_here holds).in_turn }) holds

-- the value, if the tree is one, is of these or of those
pub record IsOf (Old New : Piece → Type 0) (u : Tree) : Type 0 where
  pub each : (v : Piece) → (pieces_of u).of_value ≡ Some v → Old v ⊎ New v

pub values_old : (New : Piece → Type 0) (bs : Branches) → HoldsIn (IsOf (ValueIn bs) New) bs
values_old New bs = record { each = λ k u is. record { each = λ path w leads. record { each = λ v at. inl (value_in bs k u v is (record { path = path; value = w; leads = leads; is = at })) } } }

pub values_new : (Old New : Piece → Type 0) (k : Piece) (t : Tree) → ((v : Piece) → ValueBelow t v → New v) → HoldsBelow (IsOf Old New) (after_key k t)
values_new Old New k t on = holds_after_key (IsOf Old New) k t
    (record { each = λ v is. inr (on v (record { path = []; value = t; leads = refl; is = sym (after_value k t) ∙ is })) })
    (record { each = λ path w leads. record { each = λ v at. inr (on v (record { path = path; value = w; leads = leads; is = at })) } })

module _ (Old New : Piece → Type 0) where
  -- what has no value is of them
  pub values_kept : IsKept (IsOf Old New) (IsOf Old New) (λ k. Unit {0}) (λ k. Unit {0})
  values_kept = valueless_kept (IsOf Old New) (λ u none. record { each = λ v is. absurd (none-some v (sym none ∙ is)) })

  -- so each value is
  pub value_of_either : (cs : Branches) → HoldsIn (IsOf Old New) cs → (v : Piece) → ValueIn cs v → Old v ⊎ New v
  value_of_either cs holds v at = (holds_along cs holds at.path at.value at.leads).each v at.is

-- pieces that lie between these places still do
pieces_kept : (a n b : ℕ) → b ≤ n → IsKept (PiecesWithin a n) (PiecesWithin a b) (Within a b) (Within a b)
pieces_kept a n b later = search rules

-- what has no value encloses nothing
none_encloses : (t : Tree) → (pieces_of t).of_value ≡ None → (v : Piece) (step : PathStep) (u : Tree) → (pieces_of t).of_value ≡ Some v → tree_from t step ≡ Some u → HoldsBelow (PiecesWithin v.0 v.1) u
none_encloses t none v step u is from = absurd (none-some v (sym none ∙ is))

table_sound : (n : ℕ) (k : Piece) (o : Origin) (bs : Branches) → IsSound n (table k o bs)
table_sound n k o bs = record { encloses = none_encloses (table k o bs) refl; in_turn = tt }

-- tables that double brackets made stay in turn, with one more
one_more_in_turn : (n b : ℕ) (k : Piece) (done : Trees) (last : Piece) (bs : Branches) → Within n b k → TablesInTurn n done last → TablesInTurn b (push_tree done (table last header bs)) k
one_more_in_turn n b k done last bs lies turn = record {
  no_values = no_values_more done last bs turn.no_values;
  order = in_order_more KeyEndsBefore done (table last header bs) turn.order (λ i x is. record { each = λ l m at other. subst (λ (q : Piece). q.0 ≤ l.1) (same_Some last m other) (turn.before i x l is at) });
  before = λ i x l is at. elim (get_pushed i done (table last header bs) x is) [
    | inl old ↦ omega (arith, turn.before i x l old at, turn.runs, turn.ends, lies.begins)
    | inr new ↦ subst (λ (q : Piece). k.0 ≤ q.1) (same_Some last l (ap (λ t. (pieces_of t).of_key) new ∙ at)) (omega (arith, turn.ends, lies.begins))
  ];
  runs = lies.turns;
  ends = lies.ends;
}

pub sound_kept : (n b : ℕ) → b ≤ n → IsKept (IsSound n) (IsSound b) (λ k. Unit {0}) (Within n b)
sound_kept n b later = record {
  weaker = λ u sound. sound_later b n later u sound;
  new_table = λ k o cs fresh. table_sound b k o cs;
  new_tables = λ k fresh. record {
    encloses = none_encloses (tables k no_trees k no_branches) refl;
    in_turn = record {
      no_values = λ i x is. absurd (none-some x is);
      order = in_order_none KeyEndsBefore;
      before = λ i x l is. absurd (none-some x is);
      runs = fresh.turns;
      ends = fresh.ends;
    };
  };
  other_table = λ k o p cs ds sound. table_sound b k p ds;
  other_tables = λ k done last cs ds sound. record { encloses = none_encloses (tables k done last ds) refl; in_turn = in_turn_later b n later (tables k done last ds) sound.in_turn };
  one_more = λ k l done last cs fresh sound. record { encloses = none_encloses (tables l (push_tree done (table last header cs)) k no_branches) refl; in_turn = one_more_in_turn n b k done last cs fresh sound.in_turn };
}

-- a later place
elements_later : (a m n : ℕ) (ts : Trees) → m ≤ n → AreSettled a n ts → AreSettled a m ts
elements_later a m n ts later are = record { each = λ i x is. settled_wider a n a m x (omega arith) later (are.each i x is); order = are.order }

members_later : (a m n : ℕ) (bs : Branches) → m ≤ n → MembersSettled a n bs → MembersSettled a m bs
members_later a m n bs later settled = record {
  lie = holds_weaker_in (pieces_wider a n a m (omega arith) later) settled.lie;
  sound = holds_weaker_in (sound_later m n later) settled.sound;
  apart = settled.apart;
}

-- one more member
put_settled : (a n x y : ℕ) (k : Parts) (t : Tree) (bs : Branches) → MembersSettled a n bs → PartsWithin x y k → IsSettled x y t → n ≤ a → x ≤ n → y ≤ x → Found (put k t bs) (MembersSettled a y)
put_settled a n x y k t bs settled lies value within later runs =
    let earlier : y ≤ n = omega (arith, later, runs) in
    let wide : x ≤ a = omega (arith, within, later) in
    let wider : PartsWithin a y k = parts_wider x y a y wide (omega arith) k lies in
    let Old = ValueIn bs in
    let New = ValueBelow t in
    let lie : Found (put k t bs) (HoldsIn (PiecesWithin a y)) =
    (put_keeps _ _ _ _ (pieces_kept a n y earlier) (λ l is. is) k t wider.0 wider.1
    (pieces_after a y k.1.1 t wider.1 (holds_weaker (pieces_wider x y a y wide (omega arith)) value.lie))).each bs settled.lie in
    let sound : Found (put k t bs) (HoldsIn (IsSound y)) =
    (put_keeps _ _ _ _ (sound_kept n y earlier) (λ l is. tt) k t (all_always (λ part. tt) k.0)
    (within_wider x y n y later (omega arith) k.1.1 lies.1) (sound_after y k.1.1 t value.sound)).each bs settled.sound in
    let of_either : Found (put k t bs) (HoldsIn (IsOf Old New)) =
    (put_keeps _ _ _ _ (values_kept Old New) (λ l is. tt) k t (all_always (λ part. tt) k.0) tt
    (values_new Old New k.1.1 t (λ v below. below))).each bs (values_old New bs) in
    found_any (λ new is. record {
      lie = lie.each new is;
      sound = sound.each new is;
      apart = apart_grown n x Old New (ValueIn new) (λ v at. ((holds_along bs settled.lie at.path at.value at.leads).of_value.each v at.is).ends)
          settled.apart (λ v below. (value_lies x y t v value.lie below).begins) value.apart later (value_of_either Old New new (of_either.each new is));
    })

-- members that are settled make an inline table that is
inline_settled : (a b : ℕ) (bs : Branches) → b ≤ a → MembersSettled a b bs → IsSettled a b (inline None (a, b) bs)
inline_settled a b bs runs settled =
    whole_settled a b (inline None (a, b) bs) runs refl settled.lie settled.sound tt (λ v w one other. settled.apart v w
    (inside v one.step one.next one.from one.below) (inside w other.step other.next other.from other.below))
  where
    inside : (v : Piece) (step : PathStep) (u : Tree) → tree_from (inline None (a, b) bs) step ≡ Some u → ValueBelow u v → ValueIn bs v
    inside v (key text) u from below = value_in bs text u v from below
    inside v (index i) u from below = absurd (none-some u from)

-- ---- values

-- nothing stands in no branches
pub nowhere : (path : List PathStep) (t : Tree) → tree_at no_branches path ≡ Some t → ⊥
nowhere path t is = search rules

-- a scalar
scalar_settled : (a b : ℕ) → b ≤ a → IsSettled a b (scalar None (a, b))
scalar_settled a b runs = whole_settled a b (scalar None (a, b)) runs refl tt tt tt (λ v w one. absurd (none-some one.next one.from))

-- so each value that is read
pub settled_held : (text : List ℕ) → IsHeld text (λ s t rest. IsSettled (length s) (length rest) t)
    (λ s ts now. AreSettled (length s) (length now) ts) (λ s bs now. MembersSettled (length s) (length now) bs)
settled_held text = record {
  scalars = λ s rest d up is. scalar_settled (length s) (length rest) (rest_within up.on);
  no_elements = λ s from. record { each = λ i x is. absurd (none-some x is); order = in_order_none EndsBefore };
  elements = λ s now after next found t up are read settled is.
      elements_later (length s) (length next) (length after) (push_tree found t) (rest_within (rest_element 93 after next is))
      (element_settled (length s) (length now) (length (skip_blank now)) (length after) found t are settled
      (rest_within up.on) (rest_within (rest_blank now)) (rest_within read.left));
  arrays = λ s now found up opens are closes.
      let rest = drop 1 (skip_blank now) in
      let left : IsRest now rest = rest_on (rest_blank now) (rest_dropped 1 (skip_blank now)) in
      array_settled (length s) (length rest) found (rest_within (rest_on up.on left))
      (elements_later (length s) (length rest) (length now) found (rest_within left) are);
  no_members = λ s from opens. record {
    lie = holds_nowhere;
    sound = holds_nowhere;
    apart = λ v w one. absurd (nowhere one.path one.value one.leads);
  };
  members = λ s now at after next k found t up are more key read settled is.
      let start = skip_blank now in
      let key_left : length at ≤ length start = rest_within (equals_left start k at key) in
      let value_left : length after ≤ length at = rest_within read.left in
      found_weaker
      (put_settled (length s) (length now) (length start) (length after) k t found are
      (parts_wider (length start) (length at) (length start) (length after) (omega arith) value_left k ((key_equals_read start).each (k, at) key))
      (settled_wider (length at) (length after) (length start) (length after) t key_left (omega arith) settled)
      (rest_within up.on) (rest_within (rest_blank now)) (omega (arith, key_left, value_left)))
      (λ new. members_later (length s) (length next) (length after) new (rest_within (rest_element 125 after next is)));
  inlines = λ s now found up other are.
      let rest = drop 1 (skip_blank now) in
      let left : IsRest now rest = rest_on (rest_blank now) (rest_dropped 1 (skip_blank now)) in
      inline_settled (length s) (length rest) found (rest_within (rest_on up.on left))
      (members_later (length s) (length rest) (length now) found (rest_within left) are);
}
