-- Numbers as texts, in and out of the range of 64 bits.
use Rattle.std.proofs.Common.{◌≡◌, ◌^◌, ℕ, true, false, ℤ, pos, neg_ℤ, List, drop, of_z, to_z, to_z-of_z, rules}
use Rattle.std.specs.Prelude.{◌≤ℤ◌, ◌<ℤ◌, FitsSigned, int_lt}
use Rattle.std.specs.Int.{w64}
use Rattle.std.specs.Str.Parse.{IsNumeral, digits_value, signed_digits_value, starts_with_minus, without_leading_plus, without_leading_sign}
use Rattle.nextest_config_elements.specs.MaxFail.{IsNumberText, number_from_parts}

below_range : (number : ℕ) → ¬ (FitsSigned w64 (neg_ℤ (pos number))) → neg_ℤ (pos number) <ℤ neg_ℤ (pos (2 ^ 63))
below_range number out = search rules

above_range : (number : ℕ) → ¬ (FitsSigned w64 (pos number)) → pos (2 ^ 63) ≤ℤ pos number
above_range number out = search rules

-- the number of a text that begins with a minus is too small, where it doesn't fit
pub too_small : (text : List ℕ) → IsNumeral 10 (without_leading_sign text) → ¬ (FitsSigned w64 (signed_digits_value 10 text)) → starts_with_minus text ≡ true
    → (number : ℤ) × IsNumberText text number × (number <ℤ neg_ℤ (pos (2 ^ 63)))
too_small text digits out minus =
    (signed_digits_value 10 text, number_from_parts text digits, rw minus (below_range (digits_value 10 (drop 1 text)) (rw minus at out)))

-- that of any other text is too large
pub too_large : (text : List ℕ) → IsNumeral 10 (without_leading_sign text) → ¬ (FitsSigned w64 (signed_digits_value 10 text)) → starts_with_minus text ≡ false
    → (number : ℤ) × IsNumberText text number × (pos (2 ^ 63) ≤ℤ number)
too_large text digits out none =
    (signed_digits_value 10 text, number_from_parts text digits, rw none (above_range (digits_value 10 (without_leading_plus text)) (rw none at out)))

-- ---- the sign of a number that was read

pub positive : (number value : ℤ) → FitsSigned w64 value → number ≡ value → int_lt (pos 0) (to_z w64 (of_z w64 number)) ≡ true → pos 0 <ℤ value
positive number value fits same tested = let above : int_lt (pos 0) value ≡ true = rw (same, to_z-of_z fits) at tested in search (rules, above)

pub not_positive : (number value : ℤ) → FitsSigned w64 value → number ≡ value → int_lt (pos 0) (to_z w64 (of_z w64 number)) ≡ false → value ≤ℤ pos 0
not_positive number value fits same tested = let above : int_lt (pos 0) value ≡ false = rw (same, to_z-of_z fits) at tested in search (rules, above)
