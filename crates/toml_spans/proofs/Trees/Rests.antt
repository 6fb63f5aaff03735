-- Rests of a text.
use Rattle.std.proofs.Common.{◌≡◌, ℕ, ◌<◌, ◌≤◌, Bool, true, false, ◌==◌, List, [], ◌∷◌, ◌++◌, length, take, drop, is_some, unwrap_or, Some, refl, sym, ap, subst, ◌-◌, ◌∙◌, inl, inr, arith, append_assoc, length-append, eqb-true, rules}
use Rattle.std.proofs.lemmas.Bool.{cases_Bool}
use Rattle.std.proofs.lemmas.List.{nil_from_length, take-append-drop}
use Rattle.std.proofs.lemmas.Option.{none-some, same_Some}
use Rattle.std.specs.List.{prefix_len}
use Rattle.toml_parser.specs.Lexical.{first, is_ws, skip_blank, skip_from, skip_turn, skip_ws}
use Rattle.toml_parser.specs.Strings.{simple_key}
use Rattle.toml.specs.Data.{Data}
use Rattle.toml.specs.Parse.{after_byte, after_element, atom}
use Rattle.toml_spans.specs.Ranges.{IsFrom}
use Rattle.toml_spans.proofs.Alone.Reads.{front_of}
use Rattle.toml_spans.proofs.Alone.Strings.{simple_key_alone}
use Rattle.toml_spans.proofs.Alone.Values.{atom_alone}
use Rattle.toml_spans.proofs.Trees.Stands.{IsRest}

-- a text is the rest of itself
pub rest_itself : (text : List ℕ) → IsRest text text
rest_itself text = record { front = []; cut = refl }

-- a rest of a rest
pub rest_on : {whole text rest : List ℕ} → IsRest whole text → IsRest text rest → IsRest whole rest
rest_on {whole} {text} {rest} first_cut next = record {
  front = first_cut.front ++ next.front;
  cut = first_cut.cut ∙ ap (λ (u : List ℕ). first_cut.front ++ u) next.cut ∙ sym (append_assoc first_cut.front next.front rest);
}

-- no rest is longer
pub rest_within : {text rest : List ℕ} → IsRest text rest → length rest ≤ length text
rest_within {text} {rest} cut = omega (arith, ap length cut.cut, length-append cut.front rest)

-- after so many bytes
pub rest_dropped : (n : ℕ) (text : List ℕ) → IsRest text (drop n text)
rest_dropped n text = record { front = take n text; cut = sym (take-append-drop n text) }

-- after white space
pub rest_ws : (text : List ℕ) → IsRest text (skip_ws text)
unfolding skip_ws
rest_ws text = rest_dropped (prefix_len is_ws text) text

-- after blanks and comments
pub rest_skipped : (comments inside : Bool) (text : List ℕ) → IsRest text (skip_from comments inside text)
unfolding skip_from
rest_skipped comments inside [] = rest_itself []
rest_skipped comments inside (c ∷ text) =
    let turn = skip_turn comments inside c (first text) in
    elim (cases_Bool (is_some turn)) [
      | inl more ↦
          let later = rest_skipped comments (unwrap_or turn false) text in
          rw more (record { front = c ∷ later.front; cut = ap (λ (u : List ℕ). c ∷ u) later.cut })
      | inr ends ↦ rw ends (rest_itself (c ∷ text))
    ]

-- of a document
pub rest_blank : (text : List ℕ) → IsRest text (skip_blank text)
rest_blank text = rest_skipped true false text

-- after a byte, which is some
pub rest_byte : (byte : ℕ) (text rest : List ℕ) → after_byte byte text ≡ Some rest → IsRest text rest
rest_byte byte text rest is = elim (cases_Bool (first text == byte)) [
  | inl here ↦ rw (same_Some (drop 1 text) rest (rw here at is)) at (rest_dropped 1 text)
  | inr other ↦ absurd (none-some rest (rw other at is))
]

-- a text that begins with a byte
pub begins_byte : (byte : ℕ) (text rest : List ℕ) → after_byte byte text ≡ Some rest → (first text == byte) ≡ true
begins_byte byte text rest is = search rules

-- a text that begins with a byte that isn't 0
pub begins_with : (byte : ℕ) (text : List ℕ) → (0 == byte) ≡ false → (first text == byte) ≡ true → text ≡ byte ∷ drop 1 text
begins_with byte text some is = search rules

-- it has one
pub drop_shorter : (byte : ℕ) (text : List ℕ) → (0 == byte) ≡ false → (first text == byte) ≡ true → length (drop 1 text) < length text
drop_shorter byte text some here = search rules

-- what follows that byte is shorter
pub byte_shorter : (byte : ℕ) (text rest : List ℕ) → (0 == byte) ≡ false → after_byte byte text ≡ Some rest → length rest < length text
byte_shorter byte text rest some is = search rules

-- after an element of a list
pub rest_element : (closing : ℕ) (text rest : List ℕ) → after_element closing text ≡ Some rest → IsRest text rest
unfolding after_element
rest_element closing text rest is =
    let start = skip_blank text in
    elim (cases_Bool (first start == 44)) [
      | inl comma ↦ rw (same_Some (drop 1 start) rest (rw comma at is)) at (rest_on (rest_blank text) (rest_dropped 1 start))
      | inr other ↦ elim (cases_Bool (first start == closing)) [
        | inl closes ↦ rw (same_Some start rest (rw (other, closes) at is)) at (rest_blank text)
        | inr bad ↦ absurd (none-some rest (rw (other, bad) at is))
      ]
    ]

-- after a part of a key
pub rest_part : (text rest k : List ℕ) → simple_key text ≡ Some (k, rest) → IsRest text rest
rest_part text rest k is =
    let (front, cut, on) = front_of k rest (simple_key_alone text) is in
    record { front = front; cut = cut }

-- after a string or a word
pub rest_atom : (text rest : List ℕ) (d : Data) → atom text ≡ Some (d, rest) → IsRest text rest
rest_atom text rest d is =
    let (front, cut, on) = front_of d rest (atom_alone text) is in
    record { front = front; cut = cut }

-- a byte is another one than the one that it is
pub other_byte : (n a b : ℕ) → (n == a) ≡ true → (a == b) ≡ false → (n == b) ≡ false
other_byte n a b is other = rw (eqb-true n a is) other

-- of two fronts of one list, the shorter is a front of the longer
front_of_front : {A : Type 0} (xs ys us vs : List A) → xs ++ ys ≡ us ++ vs → length xs ≤ length us → (between : List A) × (us ≡ xs ++ between) × (ys ≡ between ++ vs)
front_of_front [] ys us vs same l = (us, refl, same)
front_of_front (x ∷ xs) ys [] vs same l = absurd (omega (arith, l))
front_of_front (x ∷ xs) ys (u ∷ us) vs same l =
    let first : x ≡ u = cc same in
    let rest : xs ++ ys ≡ us ++ vs = cc same in
    let (between, whole, behind) = front_of_front xs ys us vs rest (omega (arith, l)) in
    (between, cc (first, whole), behind)

-- ---- places

-- a rest stands from its place on
pub from_rest : (text rest : List ℕ) → IsRest text rest → IsFrom text (length text - length rest) rest
from_rest text rest cut = record { before = cut.front; whole = cut.cut; begins = omega (arith, ap length cut.cut, length-append cut.front rest) }

-- one thing stands from a place on
one_from : (text : List ℕ) (place : ℕ) (one other : List ℕ) → IsFrom text place one → IsFrom text place other → one ≡ other
one_from text place one other first second =
    let (between, longer, rest) = front_of_front first.before one second.before other (sym first.whole ∙ second.whole) (omega (arith, first.begins, second.begins)) in
    let nothing : between ≡ [] = nil_from_length between (omega (arith, first.begins, second.begins, ap length longer, length-append first.before between)) in
    rest ∙ ap (λ (u : List ℕ). u ++ other) nothing

-- so what stands after a piece is what was left there
pub place_rest : (text rest behind : List ℕ) (bytes : ℕ) → IsRest text rest → bytes ≡ length text - length rest → IsFrom text bytes behind → behind ≡ rest
place_rest text rest behind bytes cut same is = one_from text bytes behind rest is (subst (λ (n : ℕ). IsFrom text n rest) (sym same) (from_rest text rest cut))
