-- How grave a fault of what is judged is.
use Rattle.std.specs.Prelude.{◌≡◌, ◌⊎◌, ℕ, List}
use Rattle.nextest_config_values.specs.Read.Fault.{Cause, Fault, invalid_type}
use Rattle.nextest_config_values.specs.Read.{for_reason}
use Rattle.nextest_config_elements.specs.declared.field.FaultSeverity.{FaultSeverity}
use Rattle.nextest_config_elements.specs.declared.field.FaultSeverity.TheVariants as of_field
use Rattle.nextest_config_lint.specs.Conversion.{MayBecome}
use Rattle.nextest_config_lint.specs.Settings.{a_value, SettingView, Subject}
use Rattle.nextest_config_lint.specs.declared.finding.FindingSeverity.{FindingSeverity}
use Rattle.nextest_config_lint.specs.declared.finding.FindingSeverity.TheVariants.{Error, Warning}

-- the value is of a kind that isn't taken
abbrev pub IsWrongType : Cause → Type 0
IsWrongType cause = (found : List ℕ) × (expected : List ℕ)
    × (cause ≡ for_reason (invalid_type found expected))

-- nextest may make the wanted kind of the value
abbrev pub IsConvertible : Subject → Type 0
IsConvertible (a_value shape parts value) = MayBecome shape value
IsConvertible subject = ⊥

-- what is refused is of a kind that isn't taken, and nextest may make one of the wanted kind of it
abbrev pub IsConverted : SettingView → Fault → Type 0
IsConverted setting fault = (setting.severity ≡ of_field.ErrorUnlessConverted)
    × IsWrongType fault.cause × IsConvertible setting.subject

-- how grave a fault is where nextest doesn't convert the value
abbrev pub plain_severity : FaultSeverity → FindingSeverity
plain_severity of_field.Error = Error
plain_severity of_field.ErrorUnlessConverted = Error
plain_severity of_field.Warning = Warning

-- a warning where nextest may take the value all the same; else as the key says
abbrev pub IsSeverity : SettingView → Fault → FindingSeverity → Type 0
IsSeverity setting fault severity = (IsConverted setting fault × (severity ≡ Warning))
    ⊎ ((IsConverted setting fault → ⊥) × (severity ≡ plain_severity setting.severity))
