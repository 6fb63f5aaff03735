-- What the private steps of reading a duration say.
use Rattle.std.specs.Prelude.{◌≡◌, ℕ, ◌*◌, Bool, List, ◌++◌, chars, map}
use Rattle.std.specs.Str.{IsUtf8}
use denote.Ref.{Bor}
use Rattle.nextest_config_values.specs.Duration.Grammar.{BeginsWith, HasNumberThatFits, IsItemText, IsNext, IsNextFault, IsRun, Item, is_in_word}
use Rattle.nextest_config_values.specs.declared.duration.DurationFault.{DurationFault}

-- a text in two parts, of which the first is a run of characters of this kind
pub record IsCutAfter (kind : ℕ → Bool) (text run behind : List ℕ) : Type 0 where
  pub whole : text ≡ run ++ behind
  pub characters : chars text ≡ chars run ++ chars behind
  pub is_run : IsRun kind (chars run) (chars behind)
  pub run_utf8 : IsUtf8 run
  pub behind_utf8 : IsUtf8 behind

-- the text begins with an item of that many nanoseconds whose number fits, and no word goes on
-- after it
pub record IsReadItem (text : List ℕ) (nanoseconds : ℕ) (behind : List ℕ) : Type 0 where
  pub item : Item
  pub here : List ℕ
  pub whole : text ≡ here ++ behind
  pub is_item : IsItemText here item
  pub fits : HasNumberThatFits item
  pub length_is : item.number * item.unit ≡ nanoseconds
  pub over : ¬ BeginsWith is_in_word behind

-- what stands at this offset has this fault
abbrev pub IsFaultAt : ℕ → List ℕ → DurationFault → Type 0
IsFaultAt place text fault = (digits gap word behind : List ℕ) × IsNext text digits gap word behind
    × IsNextFault place digits gap word fault

-- a table of names, by their bytes
abbrev pub rows : List (Bor (List ℕ) × ℕ) → List (List ℕ × ℕ)
rows = map (λ row. (row.0.now, row.1))
