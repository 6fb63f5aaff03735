-- Enums whose values are words.
use Rattle.std.specs.Prelude.{◌≡◌, ℕ, List, [], ◌∷◌, map, Option, Some, None, nat_eq, if◌then◌else◌}
use Rattle.std.proofs.Common.{inl, inr, refl, sym, ap, ◌∙◌}
use Rattle.std.proofs.lemmas.Bool.{cases_Bool}
use Rattle.std.specs.Cmp.Lexicographic.{pointwise, same_text}
use Rattle.toml.specs.Data.{Data, as_str}
use Rattle.nextest_config_values.specs.Decisions.{IsFoundOrNone}
use Rattle.nextest_config_values.specs.Read.Fault.{unknown_word}
use Rattle.nextest_config_values.specs.Read.FromToml.{Reading}
use Rattle.nextest_config_values.specs.Read.Plain.{text_expected}
use Rattle.nextest_config_values.specs.Read.Readings.{kind, one_that, wrong_kind}

-- the first value with this word
abbrev pub value_of : {X : Type 0} → (X → List ℕ) → List X → List ℕ → Option X
value_of word [] text = None
value_of word (x ∷ xs) text = if pointwise nat_eq (word x) text then Some x
    else value_of word xs text

-- the value that is found has this word
has_word : {X : Type 0} (word : X → List ℕ) (all : List X) (text : List ℕ) (x : X)
    → value_of word all text ≡ Some x → word x ≡ text
has_word word [] text x found = cc found
has_word word (first ∷ rest) text x found = elim (cases_Bool (pointwise nat_eq (word first) text)) [
  | inl same ↦ let first_is : Some first ≡ Some x = rw same at found in
      let same_value : first ≡ x = cc first_is in
      ap word (sym same_value) ∙ same_text (word first) text (sym same)
  | inr other ↦ has_word word rest text x (rw other at found)
]

among_or_none : {X : Type 0} (word : X → List ℕ) (all : List X) (text : List ℕ) (found : Option X)
    → value_of word all text ≡ found → ((x : X) → word x ≡ text → Some x ≡ value_of word all text)
    → IsFoundOrNone (λ x. word x ≡ text)
among_or_none word all text (Some x) is back = inl (x, has_word word all text x is)
among_or_none word all text None is back = inr (λ x same. cc (back x same, is))

module _ {X : Type 0} (all : List X) (word : X → List ℕ)
    (reads_back : (x : X) → value_of word all (word x) ≡ Some x) where
  -- a word is that of one value
  pub one_value : (x y : X) → word x ≡ word y → x ≡ y
  one_value x y same =
      let found : Some x ≡ Some y = sym (reads_back x) ∙ ap (value_of word all) same ∙ reads_back y
      in
      cc found

  pub value_or_none : (held : List ℕ) → IsFoundOrNone (λ x. word x ≡ held)
  value_or_none held = among_or_none word all held (value_of word all held) refl
      (λ x same. sym (reads_back x) ∙ ap (value_of word all) same)

  -- the value whose word is the text
  abbrev pub with_word : List ℕ → Reading Data X
  with_word held = one_that (λ x. word x ≡ held) (λ x y a b. one_value x y (a ∙ sym b))
      (value_or_none held) (λ value. unknown_word held (map word all))

  -- a text that is one of these words
  abbrev pub word_reading : Reading Data X
  word_reading = kind as_str with_word (wrong_kind text_expected)
