-- Texts that are durations once fractions and gaps in numbers are left out of them.
use Rattle.std.specs.Prelude.{◌≡◌, ℕ, ◌==◌, ◌&&◌, ◌||◌, Bool, true, false, List, [], ◌∷◌, codes, chars, encode_utf8_all, if◌then◌else◌, ◌⊎◌}
use Rattle.std.specs.Char.{is_ascii_digit, is_whitespace}
use Rattle.toml_spans.specs.Characters.{dot}
use Rattle.nextest_config_values.specs.Duration.Grammar.{IsDuration}

-- a digit comes next
abbrev pub begins_with_digit : List ℕ → Bool
begins_with_digit [] = false
begins_with_digit (c ∷ cs) = is_ascii_digit c

-- ---- fractions

-- what stands before a character: part of a fraction, another digit, or neither
pub data Before : Type 0 where
  fraction : Before
  digit : Before
  neither : Before

-- the character is part of a fraction: a dot between two digits, or a digit after it
abbrev pub is_in_fraction : Before → ℕ → List ℕ → Bool
is_in_fraction fraction c cs = is_ascii_digit c || (c == dot && begins_with_digit cs)
is_in_fraction digit c cs = c == dot && begins_with_digit cs
is_in_fraction neither c cs = false

-- what stands before the next character, outside of fractions
abbrev pub before_by : Bool → Before
before_by is_digit = if is_digit then digit else neither

-- the text without what is part of a fraction, after such a character
abbrev pub without_fractions_after : Before → List ℕ → List ℕ
without_fractions_after before [] = []
without_fractions_after before (c ∷ cs) =
    if is_in_fraction before c cs then without_fractions_after fraction cs
    else c ∷ without_fractions_after (before_by (is_ascii_digit c)) cs

-- the text without each dot between two digits and the digits after it
abbrev pub without_fractions : List ℕ → List ℕ
without_fractions = without_fractions_after neither

-- ---- gaps

-- a digit comes next, or white space and then a digit
abbrev pub space_then_digit : List ℕ → Bool
space_then_digit [] = false
space_then_digit (c ∷ cs) = is_ascii_digit c || (is_whitespace c && space_then_digit cs)

-- the text without gaps, after a digit (and white space that is left out) or not
abbrev pub without_gaps_after : Bool → List ℕ → List ℕ
without_gaps_after after_digit [] = []
without_gaps_after after_digit (c ∷ cs) =
    if after_digit && (is_whitespace c && space_then_digit cs) then without_gaps_after true cs
    else c ∷ without_gaps_after (is_ascii_digit c) cs

-- the text without the white space (Unicode, White_Space) between two digits
abbrev pub without_gaps : List ℕ → List ℕ
without_gaps = without_gaps_after false

-- ---- durations

-- the text without fractions, and then without gaps
abbrev pub without_fractions_and_gaps : List ℕ → List ℕ
without_fractions_and_gaps text = encode_utf8_all (without_gaps (without_fractions (chars text)))

-- the text is a bare 0, or a duration once fractions and gaps are left out
abbrev pub MayBeDuration : List ℕ → Type 0
MayBeDuration text = (text ≡ codes "0") ⊎ ((nanoseconds : ℕ) × IsDuration (without_fractions_and_gaps text) nanoseconds)
