-- What is found wrong with a value by its reader.
use Rattle.std.specs.Prelude.{◌≡◌, ℕ, List, ◌++◌, Option, Some, option_and_then}
use Rattle.toml.specs.Data.{as_str, Data}
use Rattle.nextest_config_values.specs.Duration.{MayBeDuration}
use Rattle.nextest_config_values.specs.Read.Fault.{Cause, Fault}
use Rattle.nextest_config_values.specs.Read.{no_duration, Reason, reason_at}
use Rattle.toml_spans.specs.Line.{found_below}
use Rattle.toml_spans.specs.Step.{PathStep, printed_path}
use Rattle.nextest_config_lint.specs.Found.{Found, FoundKind, Suggestion, refused}
use Rattle.nextest_config_lint.specs.Hints.{IsFaultHint}
use Rattle.nextest_config_lint.specs.Settings.{SettingView}
use Rattle.nextest_config_lint.specs.Severity.{IsSeverity}
use Rattle.nextest_config_lint.specs.declared.finding.FindingSeverity.{FindingSeverity}

-- what is wrong is no duration
abbrev pub IsNoDuration : Cause → Type 0
IsNoDuration cause = (found : List ℕ) × (cause ≡ no_duration found)

-- the text that steps lead to from a value
abbrev pub text_along : Data → List PathStep → Option (List ℕ)
text_along value steps = option_and_then as_str (found_below steps value)

-- what is wrong with the value is a text that isn't taken for a duration, and may be one for
-- nextest
abbrev pub IsUnjudged : Data → Fault → Type 0
IsUnjudged value fault = IsNoDuration fault.cause
    × ((text : List ℕ) × (text_along value fault.steps ≡ Some text) × MayBeDuration text)

-- how a fault is reported, for this reason
abbrev pub IsFoundKind : SettingView → Fault → Reason → FoundKind → Type 0
IsFoundKind setting fault reason kind = (severity : FindingSeverity) × (hint : Option Suggestion)
    × IsSeverity setting fault severity × IsFaultHint setting fault hint
    × (kind ≡ refused reason severity hint)

-- what is found of a fault of what is judged: its path and the steps of the fault, and the cause,
-- as it is reported there
pub record IsFoundOf (setting : SettingView) (fault : Fault) (found : Found) : Type 0 where
  pub path_is : found.path ≡ setting.path ++ fault.steps
  pub kind_is : IsFoundKind setting fault
      (reason_at (printed_path (setting.path ++ fault.steps)) fault.cause) found.kind
