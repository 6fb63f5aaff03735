-- What is asked of what is judged, and what is wrong with it.
use Rattle.std.specs.Prelude.{◌≡◌}
use Rattle.toml.specs.Data.{Data}
use Rattle.nextest_config_values.specs.Read.Fault.{Fault}
use Rattle.nextest_config_values.specs.Read.{missing, unknown_key}
use Rattle.nextest_config.specs.NextestVersion.{features_under, FeatureSetting}
use Rattle.nextest_config.specs.declared.nextest_version.edition.Edition.{Edition}
use Rattle.nextest_config_lint.specs.Faults.{IsUnjudged}
use Rattle.nextest_config_lint.specs.Rules.{rules_check}
use Rattle.nextest_config_lint.specs.Settings.{a_value, absent_key, between, features_at, Subject, refused_key}
use Rattle.nextest_config_lint.specs.Shapes.{shape_check}

-- what is wrong: a value doesn't have its shape, a key that is required is absent, a key that is
-- refused is there, or a rule is broken
abbrev pub IsWrong : Edition → Subject → Fault → Type 0
IsWrong edition (a_value shape parts value) fault = (shape_check edition shape).faults value fault
IsWrong edition (absent_key name) fault = fault ≡ missing name
IsWrong edition (refused_key name expected known) fault = fault ≡ unknown_key name expected
IsWrong edition (between rules value) fault = (rules_check rules).faults value fault
IsWrong edition (features_at value) fault = ⊥

-- the features that a value names
abbrev pub NamesFeatures : Edition → Subject → Data → FeatureSetting → Type 0
NamesFeatures edition subject value named =
    (subject ≡ features_at value) × (features_under edition).means value named

-- nothing is wrong, and no feature is named; where a value of `experimental` doesn't read, what is
-- wrong is reported where it stands
abbrev pub IsRight : Edition → Subject → Type 0
IsRight edition (a_value shape parts value) = (shape_check edition shape).passes value
IsRight edition (absent_key name) = ⊥
IsRight edition (refused_key name expected known) = ⊥
IsRight edition (between rules value) = (rules_check rules).passes value
IsRight edition (features_at value) =
    (fault : Fault) × (features_under edition).faults value fault

-- what is wrong is a duration of a form that isn't judged here
abbrev pub IsLeftOpen : Subject → Fault → Type 0
IsLeftOpen (a_value shape parts value) fault = IsUnjudged value fault
IsLeftOpen subject fault = ⊥
