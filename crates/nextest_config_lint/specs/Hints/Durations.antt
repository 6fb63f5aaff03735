-- Durations that are meant by numbers without a unit.
use Rattle.std.specs.Prelude.{◌≡◌, ◌≤◌, ◌⊎◌, ℕ, ℤ, pos, negsuc, List, ◌++◌, codes, decimal, if◌then◌else◌, Option, Some, None, option_and_then}
use Rattle.std.specs.Char.{is_ascii_digit}
use Rattle.std.specs.List.{list_all}
use Rattle.toml.specs.Data.{as_integer, as_str, Data}
use Rattle.nextest_config_values.specs.Duration.{IsDuration}
use Rattle.nextest_config_lint.specs.Found.{Suggestion, the_toml, the_word}

-- the digits of a whole number
abbrev pub digits_of_number : ℤ → Option (List ℕ)
digits_of_number (pos number) = Some (decimal number)
digits_of_number (negsuc number) = None

-- a text of digits
abbrev pub digits_of_text : List ℕ → Option (List ℕ)
digits_of_text text = if list_all is_ascii_digit text then Some text else None

-- the digits of an integer, if there is one, or else of a text
abbrev pub digits_by : Option ℤ → Option (List ℕ) → Option (List ℕ)
digits_by (Some number) text = digits_of_number number
digits_by None text = option_and_then digits_of_text text

-- the digits of a value that is an integer and not negative, or a text of digits
abbrev pub digits_of : Data → Option (List ℕ)
digits_of value = digits_by (as_integer value) (as_str value)

-- so many seconds, as a duration is written
abbrev pub seconds_text : List ℕ → List ℕ
seconds_text digits = digits ++ codes "s"

-- the text is a duration
abbrev pub IsDurationText : List ℕ → Type 0
IsDurationText text = (nanoseconds : ℕ) × IsDuration text nanoseconds

-- so many seconds may be meant, if that is a duration
abbrev pub IsSecondsHint : List ℕ → Option Suggestion → Type 0
IsSecondsHint digits hint =
    (IsDurationText (seconds_text digits) × (hint ≡ Some (the_word (seconds_text digits))))
    ⊎ ((IsDurationText (seconds_text digits) → ⊥) × (hint ≡ None))

-- what may be meant in place of a duration: as many seconds as a value's digits say, if it has any
abbrev pub IsDurationHint : Option (List ℕ) → Option Suggestion → Type 0
IsDurationHint None hint = hint ≡ None
IsDurationHint (Some digits) hint = IsSecondsHint digits hint

-- a duration of a hundred seconds or more
abbrev pub IsLongText : List ℕ → Type 0
IsLongText text =
    (nanoseconds : ℕ) × IsDuration text nanoseconds × (100_000_000_000 ≤ nanoseconds)

-- so many milliseconds or seconds, as TOML writes them
abbrev pub either_unit : List ℕ → List ℕ
either_unit digits =
    codes "\"" ++ (digits ++ (codes "ms\" or \"" ++ (digits ++ codes "s\"")))

-- so many seconds may be meant, and where that would be long, as many milliseconds or seconds
abbrev pub IsEitherHint : List ℕ → Option Suggestion → Type 0
IsEitherHint digits hint =
    (IsLongText (seconds_text digits) × (hint ≡ Some (the_toml (either_unit digits))))
    ⊎ ((IsLongText (seconds_text digits) → ⊥) × IsSecondsHint digits hint)

-- what may be meant in place of a duration that is short as a rule, by a value's digits, if it has
-- any
abbrev pub IsShortHint : Option (List ℕ) → Option Suggestion → Type 0
IsShortHint None hint = hint ≡ None
IsShortHint (Some digits) hint = IsEitherHint digits hint
