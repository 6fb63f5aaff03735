-- Times that are as long as none at all.
use Rattle.std.specs.Prelude.{◌≤◌, ℕ, Bool, true, false, List, codes, IsTrue, nat_eq, Option, Some, None}
use Rattle.std.specs.Cmp.Lexicographic.{pointwise}
use Rattle.toml.specs.Data.{as_str, Data}
use Rattle.nextest_config_values.specs.Duration.{IsDuration}
use Rattle.nextest_config_elements.specs.Durations.{seconds}
use Rattle.nextest_config_elements.specs.declared.field.Shape.{Shape}
use Rattle.nextest_config_elements.specs.declared.field.Shape.TheVariants.{Duration, LeakTimeout, SlowTimeout}

-- the setting is a time
abbrev pub is_time : Shape → Bool
is_time SlowTimeout = true
is_time LeakTimeout = true
is_time Duration = true
is_time other = false

-- a part of a setting is its time itself: the whole setting, or the `period` of its table
abbrev pub is_period : Option (List ℕ) → Bool
is_period None = true
is_period (Some key) = pointwise nat_eq key (codes "period")

-- a duration of this many nanoseconds or more stands for no limit (nextest's
-- `SlowTimeout::very_large`)
abbrev pub very_large : ℕ
very_large = seconds 946_080_000

-- the text writes a duration that stands for no limit
abbrev pub IsVeryLongText : List ℕ → Type 0
IsVeryLongText text = (nanoseconds : ℕ) × IsDuration text nanoseconds × (very_large ≤ nanoseconds)

-- there is a text, and it writes a duration that stands for no limit
abbrev pub IsVeryLongIf : Option (List ℕ) → Type 0
IsVeryLongIf None = ⊥
IsVeryLongIf (Some text) = IsVeryLongText text

-- the value is a text that writes a duration that stands for no limit
abbrev pub IsVeryLong : Data → Type 0
IsVeryLong value = IsVeryLongIf (as_str value)

-- the value of a setting, or of a key of its table, is a time as long as none at all
abbrev pub IsNoLimit : Shape → Option (List ℕ) → Data → Type 0
IsNoLimit shape member value =
    IsTrue (is_time shape) × (IsTrue (is_period member) × IsVeryLong value)
