-- What may be meant by what is refused.
pub mod Durations
pub mod Written
use Rattle.std.specs.Prelude.{◌≡◌, ℕ, zero, suc, ℤ, pos, negsuc, List, ◌++◌, codes, decimal, Option, Some, None}
use Rattle.toml.specs.Data.{as_integer, as_str, as_table, Data, Members}
use Rattle.nextest_config_values.specs.Read.Fault.{for_reason, Cause, Fault, unknown_variant}
use Rattle.nextest_config_elements.specs.declared.field.Shape.{Shape}
use Rattle.nextest_config_elements.specs.declared.field.Shape.TheVariants as shapes
use Rattle.toml_spans.specs.Step.{PathStep, printed_path}
use Rattle.nextest_config_lint.specs.Found.{IsNearestSuggestion, Suggestion, the_toml}
use Rattle.nextest_config_lint.specs.Hints.Durations.{digits_of, IsDurationHint, IsShortHint}
use Rattle.nextest_config_lint.specs.Hints.Written.{IsWrittenHint}
use Rattle.nextest_config_lint.specs.Settings.{a_value, SettingView, Subject, refused_key}

-- the table with a limit of so many failures, from one on
abbrev pub limit_of_count : ℤ → Option Suggestion
limit_of_count (pos zero) = None
limit_of_count (pos (suc number)) =
    Some (the_toml (codes "{ max-fail = " ++ (decimal (suc number) ++ codes " }")))
limit_of_count (negsuc number) = None

-- what may be meant in place of a fail limit: the table of a count, or what a text writes
abbrev pub IsLimitHint : Option ℤ → Option (List ℕ) → Option Suggestion → Type 0
IsLimitHint (Some number) text hint = hint ≡ limit_of_count number
IsLimitHint None text hint = IsWrittenHint shapes.FailFast text hint

-- the header of an array of tables, for a table
abbrev pub suggested_tables : List PathStep → Option Members → Option Suggestion
suggested_tables path None = None
suggested_tables path (Some held) =
    Some (the_toml (codes "[[" ++ (printed_path path ++ codes "]]")))

-- what may be meant by a value in place of one of a shape
abbrev pub IsHintAt : List PathStep → Shape → Data → Option Suggestion → Type 0
IsHintAt path shapes.SlowTimeout value hint = IsDurationHint (digits_of value) hint
IsHintAt path shapes.Duration value hint = IsDurationHint (digits_of value) hint
IsHintAt path shapes.LeakTimeout value hint = IsShortHint (digits_of value) hint
IsHintAt path shapes.ShortDuration value hint = IsShortHint (digits_of value) hint
IsHintAt path shapes.FailFast value hint = IsLimitHint (as_integer value) (as_str value) hint
IsHintAt path shapes.Array value hint = hint ≡ suggested_tables path (as_table value)
IsHintAt path shape value hint = IsWrittenHint shape (as_str value) hint

-- the word that is refused as unknown, and the known ones
abbrev pub unknown_word_in : Cause → Option (List ℕ × List (List ℕ))
unknown_word_in (for_reason (unknown_variant name known)) = Some (name, known)
unknown_word_in cause = None

-- what may be meant by a value: the known word that an unknown one comes nearest to, or something
-- in place of one of its shape
abbrev pub IsValueHint : Option (List ℕ × List (List ℕ)) → List PathStep → Shape → Data
    → Option Suggestion → Type 0
IsValueHint (Some (name, known)) path shape value hint = IsNearestSuggestion known name hint
IsValueHint None path shape value hint = IsHintAt path shape value hint

-- what may be meant by what is refused: by a value, or by a key the nearest of those that the table
-- may have
abbrev pub IsHintOf : List PathStep → Subject → Fault → Option Suggestion → Type 0
IsHintOf path (a_value shape parts value) fault hint =
    IsValueHint (unknown_word_in fault.cause) path shape value hint
IsHintOf path (refused_key name expected known) fault hint = IsNearestSuggestion known name hint
IsHintOf path subject fault hint = hint ≡ None

-- what may be meant by what a fault refuses
abbrev pub IsFaultHint : SettingView → Fault → Option Suggestion → Type 0
IsFaultHint setting = IsHintOf setting.path setting.subject
