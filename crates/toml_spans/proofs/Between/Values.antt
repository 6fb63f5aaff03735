-- What stands between the elements of arrays in a value that is read.
use Rattle.std.proofs.Common.{◌≡◌, ℕ, ◌==◌, false, List, [], ◌∷◌, length, drop, None, Some, refl, sym, ap, subst, ◌∙◌, inl, inr, eqb-true}
use Rattle.std.proofs.lemmas.Bool.{cases_Bool}
use Rattle.std.proofs.lemmas.Option.{none-some}
use Rattle.toml.specs.Data.{Data}
use Rattle.toml.specs.Parse.{atom}
use Rattle.toml_parser.specs.Lexical.{first, skip_blank}
use Rattle.toml_spans.specs.Entry.{after_key, array, inline, piece, scalar, Trees}
use Rattle.toml_spans.specs.Value.{pair_tree, value_tree}
use Rattle.toml_spans.proofs.Alone.Values.{atom_none}
use Rattle.toml_spans.proofs.Elements.{all_always}
use Rattle.toml_spans.proofs.Between.Elements.{AreElements, elements_more, ElementsSpaced, spaced_after, spaced_kept}
use Rattle.toml_spans.proofs.Found.{Found, found_weaker}
use Rattle.toml_spans.proofs.Order.Changes.{put_keeps}
use Rattle.toml_spans.proofs.Order.Holds.{holds_nowhere, holds_of_none, holds_pushed, holds_tree, HoldsAmong, HoldsBelow, HoldsIn}
use Rattle.toml_spans.proofs.Trees.Holding.{IsHeld, pair_value_holds}
use Rattle.toml_spans.proofs.Trees.Rests.{begins_with, rest_blank, rest_element, rest_itself, rest_on}
use Rattle.toml_spans.proofs.Trees.Stands.{IsRest}

-- no string and no word begins with a bracket
no_square : (s : List ℕ) (r : Data × List ℕ) → atom s ≡ Some r → (first s == 91) ≡ false
no_square [] r is = refl
no_square (c ∷ s) r is = elim (cases_Bool (c == 91)) [
  | inl square ↦ absurd (none-some r (sym (atom_none c s (rw square refl)) ∙ is))
  | inr other ↦ other
]

-- the elements so far are spaced
record AreSpaced (text s : List ℕ) (ts : Trees) (now : List ℕ) : Type 0 where
  are : AreElements (drop 1 s) ts now
  within : IsRest (drop 1 s) now
  spaced : HoldsAmong (ElementsSpaced text) ts

-- so the elements of all arrays in a value are
spaced_held : (text : List ℕ) → IsHeld text (λ s t rest. HoldsBelow (ElementsSpaced text) t) (AreSpaced text) (λ s bs now. HoldsIn (ElementsSpaced text) bs)
spaced_held text = record {
  scalars = λ s rest d up is. holds_tree (scalar None (piece s rest))
      (record { start = s; from = up.from; begins = refl; other = no_square s (d, rest) is }) tt;
  no_elements = λ s from. record { are = refl; within = rest_itself (drop 1 s); spaced = holds_of_none };
  elements = λ s now after next found t up so_far read spaced is.
      let behind : IsRest now after = rest_on (rest_blank now) read.left in
      record {
        are = elements_more (drop 1 s) now next found t so_far.are
            (record { behind = after; value = read.value; left = behind; rest = next; after = is; more = refl });
        within = rest_on (rest_on so_far.within behind) (rest_element 93 after next is);
        spaced = holds_pushed found t so_far.spaced spaced;
      };
  arrays = λ s now found up opens so_far closes.
      let begins : s ≡ 91 ∷ drop 1 s = begins_with 91 s refl opens in
      holds_tree (array None (piece s (drop 1 (skip_blank now))) found) (record {
        inside = drop 1 s;
        from = subst (IsRest text) begins up.from;
        begins = ap length begins;
        end = now;
        are = so_far.are;
        within = so_far.within;
        closes = eqb-true (first (skip_blank now)) 93 closes;
        ends = refl;
      }) so_far.spaced;
  no_members = λ s from opens. holds_nowhere;
  members = λ s now at after next k found t up holds more key read spaced is.
      (put_keeps _ _ _ _ (spaced_kept text) (λ l is. tt) k t (all_always (λ part. tt) k.0) tt (spaced_after text k.1.1 t spaced)).each found holds;
  inlines = λ s now found up other holds. holds_tree (inline None (piece s (drop 1 (skip_blank now))) found)
      (record { start = s; from = up.from; begins = refl; other = other }) holds;
}

-- and those in the value of a pair
pub pair_value_spaced : (text s : List ℕ) → IsRest text s → Found (pair_tree (value_tree 80) s) (λ p. HoldsBelow (ElementsSpaced text) (after_key p.0.0.1.1 p.0.1))
pair_value_spaced text s from =
    found_weaker (pair_value_holds text _ _ _ (spaced_held text) s from) (λ p pair_read. spaced_after text p.0.0.1.1 p.0.1 pair_read.holds)
