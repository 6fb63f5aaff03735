-- What is remarked of values.
use Rattle.std.specs.Prelude.{◌≡◌, ◌⊎◌, ◌≤◌, ◌<◌, ◌*◌, ℕ, ℤ, pos, Bool, true, false, ◌&&◌, List, [], ◌∷◌, ◌++◌, codes, nat_eq, Option, Some, None}
use Rattle.std.specs.Cmp.Lexicographic.{pointwise}
use Rattle.std.specs.Duration.{as_nanos, FitsDuration}
use Rattle.toml.specs.Data.{as_integer, as_str, Data}
use Rattle.toml.specs.View.{view}
use Rattle.nextest_config_values.specs.Duration.{IsDuration}
use Rattle.nextest_config_elements.specs.declared.field.Shape.{Shape}
use Rattle.nextest_config_elements.specs.declared.field.Shape.TheVariants.{SlowTimeout}
use Rattle.nextest_config_profiles.specs.Report.At.{At, IsLastAt}
use Rattle.nextest_config_profiles.specs.Report.NoLimit.{IsNoLimit, very_large}
use Rattle.nextest_config_profiles.specs.declared.last_value.LayerValue.{LayerValue}
use Rattle.nextest_config_profiles.specs.declared.report.parts.Remark.{Remark}
use Rattle.nextest_config_profiles.specs.declared.report.parts.Remark.TheVariants.{NoLimit, Nothing, TerminatedAfter}

-- the setting is a timeout of slow tests
abbrev pub is_slow_timeout : Shape → Bool
is_slow_timeout SlowTimeout = true
is_slow_timeout other = false

-- the key of a table is the one with a number of periods
abbrev pub is_terminate_after : Option (List ℕ) → Bool
is_terminate_after None = false
is_terminate_after (Some key) = pointwise nat_eq key (codes "terminate-after")

-- a key says after how many periods a slow test is terminated
abbrev pub is_number_of_periods : Shape → Option (List ℕ) → Bool
is_number_of_periods shape member = is_slow_timeout shape && is_terminate_after member

-- the duration that a text writes, if it is one, and below what stands for no limit
abbrev pub IsPeriodText : Option (List ℕ) → Option ℕ → Type 0
IsPeriodText None period = period ≡ None
IsPeriodText (Some text) None =
    (nanoseconds : ℕ) → IsDuration text nanoseconds → very_large ≤ nanoseconds
IsPeriodText (Some text) (Some nanoseconds) =
    IsDuration text nanoseconds × (nanoseconds < very_large)

-- the period that was found, if it is one
abbrev pub IsPeriodFound : Option LayerValue → Option ℕ → Type 0
IsPeriodFound None period = period ≡ None
IsPeriodFound (Some found) period = IsPeriodText (as_str (view found.value.now)) period

-- the period of the table of a setting, as the last layer that says anything of it has it
abbrev pub IsPeriodOf : At → Option ℕ → Type 0
IsPeriodOf at period = (found : Option LayerValue)
    × IsLastAt at.effective at.profile (at.setting.keys ++ (codes "period" ∷ [])) found
    × IsPeriodFound found period

-- what is remarked of so many periods: after how long a slow test is terminated, if that is a
-- duration
abbrev pub IsEnding : Option ℕ → Option ℤ → Remark → Type 0
IsEnding (Some period) (Some (pos number)) Nothing = FitsDuration (period * number) → ⊥
IsEnding (Some period) (Some (pos number)) NoLimit = ⊥
IsEnding (Some period) (Some (pos number)) (TerminatedAfter duration) =
    as_nanos duration ≡ period * number
IsEnding period number remark = remark ≡ Nothing

-- what is remarked of a number of periods, if it is one
abbrev pub IsEndingIf : Bool → At → Data → Remark → Type 0
IsEndingIf true at value remark =
    (period : Option ℕ) × IsPeriodOf at period × IsEnding period (as_integer value) remark
IsEndingIf false at value remark = remark ≡ Nothing

-- what is remarked of the value of a setting, or of a key of its table: that it is a time as long
-- as none at all, or what comes of a number of periods
abbrev pub IsRemark : At → Option (List ℕ) → Data → Remark → Type 0
IsRemark at member value remark =
    (IsNoLimit at.setting.rule.shape member value × (remark ≡ NoLimit))
    ⊎ ((IsNoLimit at.setting.rule.shape member value → ⊥)
    × IsEndingIf (is_number_of_periods at.setting.rule.shape member) at value remark)
