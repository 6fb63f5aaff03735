-- Durations as texts, in the manner of humantime: whole numbers, each with a unit. Texts are read
-- by their characters.
use Rattle.std.specs.Prelude.{◌≡◌, ◌≢◌, ℕ, ◌+◌, ◌*◌, ◌<◌, ◌≤◌, ◌^◌, ◌&&◌, Bool, not, IsTrue, List, [], ◌∷◌, ◌++◌, length, codes, chars, encode_utf8_all, Option, Some, None, option_map}
use Rattle.std.specs.Char.{is_ascii_digit, is_whitespace}
use Rattle.std.specs.Duration.{FitsDuration}
use Rattle.std.specs.List.{AllByRecursion}
use Rattle.std.specs.Str.Parse.{digits_value}
use Rattle.toml_spans.specs.Characters.{micro_sign}
use Rattle.nextest_config_values.specs.Read.Word.{value_of}
use Rattle.nextest_config_values.specs.declared.duration.DurationFault.{DurationFault}
use Rattle.nextest_config_values.specs.declared.duration.DurationFault.TheVariants as faults

-- ---- units

-- each unit's words, and its length in nanoseconds
abbrev pub units : List (List ℕ × ℕ)
units =
    (codes "nanos", 1) ∷ (codes "nsec", 1) ∷ (codes "ns", 1)
    ∷ (codes "usec", 1_000) ∷ (codes "us", 1_000) ∷ (micro_sign ∷ codes "s", 1_000)
    ∷ (codes "millis", 1_000_000) ∷ (codes "msec", 1_000_000) ∷ (codes "ms", 1_000_000)
    ∷ (codes "seconds", 1_000_000_000) ∷ (codes "second", 1_000_000_000) ∷
    (codes "secs", 1_000_000_000) ∷ (codes "sec", 1_000_000_000) ∷ (codes "s", 1_000_000_000)
    ∷ (codes "minutes", 60_000_000_000) ∷ (codes "minute", 60_000_000_000) ∷
    (codes "mins", 60_000_000_000) ∷ (codes "min", 60_000_000_000) ∷ (codes "m", 60_000_000_000)
    ∷ (codes "hours", 3_600_000_000_000) ∷ (codes "hour", 3_600_000_000_000) ∷
    (codes "hrs", 3_600_000_000_000) ∷ (codes "hr", 3_600_000_000_000) ∷
    (codes "h", 3_600_000_000_000)
    ∷ (codes "days", 86_400_000_000_000) ∷ (codes "day", 86_400_000_000_000) ∷
    (codes "d", 86_400_000_000_000)
    ∷ (codes "weeks", 604_800_000_000_000) ∷ (codes "week", 604_800_000_000_000) ∷
    (codes "wks", 604_800_000_000_000) ∷ (codes "wk", 604_800_000_000_000) ∷
    (codes "w", 604_800_000_000_000)
    ∷ (codes "months", 2_630_016_000_000_000) ∷ (codes "month", 2_630_016_000_000_000) ∷
    (codes "M", 2_630_016_000_000_000)
    ∷ (codes "years", 31_557_600_000_000_000) ∷ (codes "year", 31_557_600_000_000_000) ∷
    (codes "yrs", 31_557_600_000_000_000) ∷ (codes "yr", 31_557_600_000_000_000) ∷
    (codes "y", 31_557_600_000_000_000)
    ∷ []

-- the length in the first row with this word
abbrev pub length_in : List (List ℕ × ℕ) → List ℕ → Option ℕ
length_in rows word = option_map (λ row. row.1) (value_of (λ row. row.0) rows word)

-- the length of the unit with this word, if there is one; letter case counts
abbrev pub unit_length : List ℕ → Option ℕ
unit_length = length_in units

-- ---- characters

-- a character that words of units are made of: neither white space (Unicode, White_Space) nor an
-- ASCII digit
abbrev pub is_in_word : ℕ → Bool
is_in_word c = not (is_whitespace c) && not (is_ascii_digit c)

-- each character is of this kind
abbrev pub AreAll : (ℕ → Bool) → List ℕ → Type 0
AreAll kind = AllByRecursion (λ c. IsTrue (kind c))

-- the first character is of this kind
abbrev pub BeginsWith : (ℕ → Bool) → List ℕ → Type 0
BeginsWith kind [] = ⊥
BeginsWith kind (c ∷ cs) = IsTrue (kind c)

-- the last character is of this kind
abbrev pub EndsWith : (ℕ → Bool) → List ℕ → Type 0
EndsWith kind [] = ⊥
EndsWith kind (c ∷ []) = IsTrue (kind c)
EndsWith kind (c ∷ d ∷ cs) = EndsWith kind (d ∷ cs)

-- a run of characters of this kind, as long as can be, and what comes after it
pub record IsRun (kind : ℕ → Bool) (run behind : List ℕ) : Type 0 where
  pub inside : AreAll kind run
  pub over : ¬ BeginsWith kind behind

-- ---- spellings

-- a number, and the length of its unit in nanoseconds
pub record Item : Type 0 where
  pub number : ℕ
  pub unit : ℕ

-- the text of an item: white space, the digits of the number, white space, and a word of the unit
pub record IsItemText (text : List ℕ) (item : Item) : Type 0 where
  pub space : List ℕ
  pub digits : List ℕ
  pub gap : List ℕ
  pub word : List ℕ
  pub whole : text ≡ space ++ (digits ++ (gap ++ word))
  pub space_is_white : AreAll is_whitespace space
  pub some_digits : digits ≢ []
  pub digits_are : AreAll is_ascii_digit digits
  pub number_is : digits_value 10 digits ≡ item.number
  pub gap_is_white : AreAll is_whitespace gap
  pub unit_is : unit_length word ≡ Some item.unit

-- items spell a text: that of one item after the other, and white space after the last
abbrev pub Spells : List Item → List ℕ → Type 0
Spells [] text = AreAll is_whitespace text
Spells (item ∷ items) text = (here behind : List ℕ) × (text ≡ here ++ behind) × IsItemText here item
    × Spells items behind

-- the cut isn't inside a word
abbrev pub IsUncut : List ℕ → List ℕ → Type 0
IsUncut front behind = EndsWith is_in_word front → ¬ BeginsWith is_in_word behind

-- the number of the item is at most 2^64 - 1
abbrev pub HasNumberThatFits : Item → Type 0
HasNumberThatFits item = item.number < 2 ^ 64

-- the length of items in nanoseconds: the sum of number times unit
abbrev pub total : List Item → ℕ
total [] = 0
total (item ∷ items) = item.number * item.unit + total items

-- the text is that many nanoseconds: one item or more, and their sum is at most (2^64 - 1) s and
-- 999999999 ns, the greatest `Duration` of std
pub record IsDuration (text : List ℕ) (nanoseconds : ℕ) : Type 0 where
  pub items : List Item
  pub some : items ≢ []
  pub spelled : Spells items (chars text)
  pub fit : AllByRecursion HasNumberThatFits items
  pub sum : total items ≡ nanoseconds
  pub sum_fits : FitsDuration nanoseconds

-- ---- faults

-- a front of the text that is white space or is spelled by items whose numbers fit, and that
-- doesn't end inside a word
pub record IsFront (text front behind : List ℕ) (items : List Item) : Type 0 where
  pub whole : text ≡ front ++ behind
  pub spelled : Spells items front
  pub fit : AllByRecursion HasNumberThatFits items
  pub uncut : IsUncut front behind

-- the longest of the text's fronts that are white space or are spelled by items whose numbers fit,
-- and that don't end inside a word
pub record IsLongestFront (text front behind : List ℕ) (items : List Item) : Type 0 where
  pub is_front : IsFront text front behind items
  pub longest : (other rest : List ℕ) (others : List Item) → IsFront text other rest others
      → length other ≤ length front

-- what the text begins with: digits, white space and a word, each as long as can be, and each
-- possibly empty
pub record IsNext (text digits gap word behind : List ℕ) : Type 0 where
  pub whole : text ≡ digits ++ (gap ++ (word ++ behind))
  pub of_digits : IsRun is_ascii_digit digits (gap ++ (word ++ behind))
  pub of_gap : IsRun is_whitespace gap (word ++ behind)
  pub of_word : IsRun is_in_word word behind

-- digits of a number that fits
abbrev pub AreFittingDigits : List ℕ → Type 0
AreFittingDigits digits = (digits ≢ []) × (digits_value 10 digits < 2 ^ 64)

-- the offset in bytes of what comes after these characters
abbrev pub offset : List ℕ → ℕ
offset front = length (encode_utf8_all front)

-- the fault of a text that its longest front is the whole of
abbrev pub IsEndFault : List Item → DurationFault → Type 0
IsEndFault items faults.Empty = items ≡ []
IsEndFault items faults.SumTooLarge = (items ≢ []) × ¬ FitsDuration (total items)
IsEndFault items _ = ⊥

-- the fault at what comes next, which stands at this offset
abbrev pub IsNextFault : ℕ → List ℕ → List ℕ → List ℕ → DurationFault → Type 0
IsNextFault place digits gap word (faults.NumberExpected at) = (digits ≡ []) × (at ≡ place)
IsNextFault place digits gap word (faults.NumberTooLarge at) = (2 ^ 64 ≤ digits_value 10 digits)
    × (at ≡ place)
IsNextFault place digits gap word (faults.UnitMissing at) = AreFittingDigits digits × (word ≡ [])
    × (at ≡ place + offset (digits ++ gap))
IsNextFault place digits gap word (faults.UnitUnknown at) = AreFittingDigits digits × (word ≢ [])
    × (unit_length word ≡ None) × (at ≡ place + offset (digits ++ gap))
IsNextFault place digits gap word _ = ⊥

-- the fault after the longest front: nothing follows, or something that is no item
abbrev pub IsFaultAfter : List ℕ → List ℕ → List Item → DurationFault → Type 0
IsFaultAfter front [] items fault = IsEndFault items fault
IsFaultAfter front (c ∷ cs) items fault = (digits gap word behind : List ℕ)
    × IsNext (c ∷ cs) digits gap word behind × IsNextFault (offset front) digits gap word fault

-- the fault of a text that is no duration
abbrev pub IsDurationFault : List ℕ → DurationFault → Type 0
IsDurationFault text fault = (front behind : List ℕ) × (items : List Item)
    × IsLongestFront (chars text) front behind items × IsFaultAfter front behind items fault
