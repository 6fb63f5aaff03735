-- What the value of a key has to be, as people are told.
use Rattle.std.specs.Prelude.{◌≡◌, ℕ, List, [], codes, IsSome, Option, Some, None, option_and_then}
use Rattle.toml.specs.Data.{as_datetime, Data, string}
use Rattle.nextest_config_values.specs.Read.Fault.{Cause, Fault, for_reason, invalid_type, unknown_variant}
use Rattle.nextest_config_values.specs.Read.{words_text}
use Rattle.nextest_config.specs.declared.nextest_version.edition.Edition.TheVariants.{ArrayAllowed}
use Rattle.nextest_config_elements.specs.declared.field.Shape.{Shape}
use Rattle.nextest_config_lint.specs.Shapes.{shape_check}

-- what a shape says of a value: nothing, or how it refuses it
abbrev pub IsJudged : Shape → Data → Option Fault → Type 0
IsJudged shape value None = (shape_check ArrayAllowed shape).passes value
IsJudged shape value (Some fault) = (shape_check ArrayAllowed shape).faults value fault

-- the words that a refusal expects, if it lists any
abbrev pub listed_words : Cause → Option (List (List ℕ))
listed_words (for_reason (unknown_variant found expected)) = Some expected
listed_words cause = None

-- what a refusal expects in place of a value of another kind
abbrev pub expected_kind : Cause → Option (List ℕ)
expected_kind (for_reason (invalid_type found expected)) = Some expected
expected_kind cause = None

-- the words, or else what is expected, if anything is
abbrev pub expected_text : Option (List (List ℕ)) → Option (List ℕ) → List ℕ
expected_text (Some words) expected = words_text words
expected_text None (Some expected) = expected
expected_text None None = codes "anything"

-- the text tells what a shape takes: what it says that it expects in place of an empty text, which
-- is no word, or else in place of a date-time
pub record IsExpected (shape : Shape) (text : List ℕ) : Type 0 where
  pub date : Data
  pub of_text : Option Fault
  pub of_date : Option Fault
  pub text_judged : IsJudged shape (string []) of_text
  pub is_date : IsSome (as_datetime date)
  pub date_judged : IsJudged shape date of_date
  pub listed : text ≡ expected_text (option_and_then (λ fault. listed_words fault.cause) of_text)
      (option_and_then (λ fault. expected_kind fault.cause) of_date)
