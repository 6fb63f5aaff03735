-- A text is one number, the one that the standard library reads, or none.
use Rattle.std.proofs.Common.{◌≡◌, ℕ, false, eqb, ℤ, List, [], ◌∷◌, ◌++◌, length, refl, sym, ap, ◌∙◌, arith, inl, inr}
use Rattle.std.proofs.lemmas.Bool.{cases_Bool, eqb-true, ne_eqb}
use Rattle.std.proofs.lemmas.Str.Parse.{digit_from_value}
use Rattle.std.specs.Char.{digit_value}
use Rattle.std.specs.Str.Parse.{AllDigits, IsNumeral, digits_value, signed_digits_value, starts_with_minus, without_leading_plus, without_leading_sign}
use Rattle.nextest_config_values.specs.Decisions.{below_decided, both_decided, IsDecided, IsFoundOrNone}
use Rattle.nextest_config_elements.specs.MaxFail.NumberText.{IsNumberText, Sign, minus, plus, sign_text, signed_number, unsigned}

-- digits begin with no sign
unsigned_parts : (digits : List ℕ) → IsNumeral 10 digits → (starts_with_minus digits ≡ false)
    × (without_leading_plus digits ≡ digits)
unsigned_parts [] h = absurd (omega (arith, h.0))
unsigned_parts (c ∷ cs) h =
    let range = digit_from_value c h.1.0 in
    let no_minus : eqb c 45 ≡ false = ne_eqb c 45 (λ e. omega arith) in
    let no_plus : eqb c 43 ≡ false = ne_eqb c 43 (λ e. omega arith) in
    (no_minus, rw no_plus refl)

signed_parts : (sign : Sign) (digits : List ℕ) → IsNumeral 10 digits
    → IsNumeral 10 (without_leading_sign (sign_text sign ++ digits))
    × (signed_number sign (digits_value 10 digits)
    ≡ signed_digits_value 10 (sign_text sign ++ digits))
signed_parts unsigned digits h =
    let parts = unsigned_parts digits h in
    (rw (parts.0, parts.1) h, rw (parts.0, parts.1) refl)
signed_parts plus digits h = (h, refl)
signed_parts minus digits h = (h, refl)

-- what the parts of a number's text are to the standard library
pub number_parts : (text : List ℕ) (number : ℤ) → IsNumberText text number
    → IsNumeral 10 (without_leading_sign text) × (number ≡ signed_digits_value 10 text)
number_parts text number h =
    let parts = signed_parts h.sign h.digits h.numeral in
    (rw h.whole parts.0, rw h.whole (h.value ∙ parts.1))

pub number_from_parts : (text : List ℕ) → IsNumeral 10 (without_leading_sign text)
    → IsNumberText text (signed_digits_value 10 text)
number_from_parts [] h = absurd (omega (arith, h.0))
number_from_parts (c ∷ cs) h = elim (cases_Bool (eqb c 45)) [
  | inl negative ↦ record {
    sign = minus;
    digits = cs;
    whole = ap (λ b. b ∷ cs) (eqb-true c 45 negative);
    numeral = rw negative at h;
    value =
        rw negative refl;
  }
  | inr other ↦ elim (cases_Bool (eqb c 43)) [
    | inl positive ↦ record {
      sign = plus;
      digits = cs;
      whole = ap (λ b. b ∷ cs) (eqb-true c 43 positive);
      numeral = rw (other, positive) at h;
      value = rw (other, positive) refl;
    }
    | inr none ↦ record {
      sign = unsigned;
      digits = c ∷ cs;
      whole = refl;
      numeral = rw (other, none) at h;
      value = rw (other, none) refl;
    }
  ]
]

pub one_number : (text : List ℕ) (m n : ℤ) → IsNumberText text m → IsNumberText text n → m ≡ n
one_number text m n a b = (number_parts text m a).1 ∙ sym (number_parts text n b).1

-- ---- each text is a number, or none

digits_decided : (digits : List ℕ) → IsDecided (AllDigits 10 digits)
digits_decided [] = inl tt
digits_decided (c ∷ cs) = both_decided (below_decided (digit_value c) 10) (digits_decided cs)

numeral_decided : (digits : List ℕ) → IsDecided (IsNumeral 10 digits)
numeral_decided digits = both_decided (below_decided 0 (length digits)) (digits_decided digits)

from_numeral : (text : List ℕ) → IsDecided (IsNumeral 10 (without_leading_sign text))
    → IsFoundOrNone (IsNumberText text)
from_numeral text (inl numeral) = inl (signed_digits_value 10 text, number_from_parts text numeral)
from_numeral text (inr none) = inr (λ number is. none (number_parts text number is).0)

pub number_or_none : (text : List ℕ) → IsFoundOrNone (IsNumberText text)
number_or_none text = from_numeral text (numeral_decided (without_leading_sign text))
