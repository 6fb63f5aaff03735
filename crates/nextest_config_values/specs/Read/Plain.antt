-- The readings of plain values.
use Rattle.std.specs.Prelude.{◌≡◌, ℕ, ◌<◌, ◌^◌, ℤ, pos, negsuc, Bool, List, codes}
use Rattle.std.proofs.Common.{inl, inr, refl, subst}
use Rattle.toml.specs.Data.{Data, as_bool, as_integer, as_str}
use Rattle.nextest_config_values.specs.Decisions.{below_decided, both_decided, IsDecided, IsFoundOrNone}
use Rattle.nextest_config_values.specs.Read.Fault.{wrong_value}
use Rattle.nextest_config_values.specs.Read.FromToml.{Reading}
use Rattle.nextest_config_values.specs.Read.Readings.{in_memory, kind, one_that, only, wrong_kind}

-- what a reader of texts expects
abbrev pub text_expected : List ℕ
text_expected = codes "a string"

-- the reading of a boolean (TOML 1.1, "Boolean")
abbrev pub bool_reading : Reading Data Bool
bool_reading = kind as_bool only (wrong_kind (codes "a boolean"))

-- the reading of a text (TOML 1.1, "String")
abbrev pub text_reading : Reading Data (List ℕ)
text_reading = in_memory (kind as_str only (wrong_kind text_expected))

-- ---- integers of a range

-- the integer is this number, which is in the range
abbrev pub MeansNumber : (ℕ → Type 0) → ℤ → ℕ → Type 0
MeansNumber IsIn held number = (held ≡ pos number) × IsIn number

pub one_number : (IsIn : ℕ → Type 0) (held : ℤ) (x y : ℕ) → MeansNumber IsIn held x
    → MeansNumber IsIn held y → x ≡ y
one_number IsIn held x y a b = cc (a.0, b.0)

in_or_out : (IsIn : ℕ → Type 0) (number : ℕ) → IsDecided (IsIn number)
    → IsFoundOrNone (MeansNumber IsIn (pos number))
in_or_out IsIn number (inl within) = inl (number, (refl, within))
in_or_out IsIn number (inr outside) = inr (λ x meant. outside (subst IsIn (cc meant.0) meant.1))

pub number_or_none : (IsIn : ℕ → Type 0) → ((number : ℕ) → IsDecided (IsIn number)) → (held : ℤ)
    → IsFoundOrNone (MeansNumber IsIn held)
number_or_none IsIn decided (pos number) = in_or_out IsIn number (decided number)
number_or_none IsIn decided (negsuc below) = inr (λ x meant. cc meant.0)

-- the reading by an integer that is held: it is a number of the range, or the value is wrong
abbrev pub in_range : (IsIn : ℕ → Type 0) → ((number : ℕ) → IsDecided (IsIn number)) → List ℕ → ℤ
    → Reading Data ℕ
in_range IsIn decided expected held = one_that (MeansNumber IsIn held) (one_number IsIn held)
    (number_or_none IsIn decided held) (λ value. wrong_value value expected)

-- the reading of an integer of a range (TOML 1.1, "Integer")
abbrev pub number_reading : (IsIn : ℕ → Type 0) → ((number : ℕ) → IsDecided (IsIn number)) → List ℕ
    → Reading Data ℕ
number_reading IsIn decided expected =
    kind as_integer (in_range IsIn decided expected) (wrong_kind expected)

-- the number fits a u32
abbrev pub IsU32 : ℕ → Type 0
IsU32 number = number < 2 ^ 32

pub u32_decided : (number : ℕ) → IsDecided (IsU32 number)
u32_decided number = below_decided number (2 ^ 32)

-- the reading of an integer that fits a u32
abbrev pub u32_reading : Reading Data ℕ
u32_reading = number_reading IsU32 u32_decided (codes "u32")

-- a count is from 1 to the greatest usize
abbrev pub IsCount : ℕ → Type 0
IsCount number = (0 < number) × (number < 2 ^ 64)

pub count_decided : (number : ℕ) → IsDecided (IsCount number)
count_decided number =
    both_decided (below_decided 0 number) (below_decided number (2 ^ 64))

-- the reading of a count
abbrev pub count_reading : Reading Data ℕ
count_reading = number_reading IsCount count_decided (codes "a nonzero usize")
