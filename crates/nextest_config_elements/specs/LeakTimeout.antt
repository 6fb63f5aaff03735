-- The setting `leak-timeout`: how long a test may leak its handles.
use Rattle.std.specs.Prelude.{◌≡◌, ℕ, List, [], ◌∷◌, codes, Option, Some}
use Rattle.std.proofs.Common.{rules}
use Rattle.std.specs.Duration.{as_nanos}
use Rattle.toml.specs.Data.{Data, Members, as_str}
use Rattle.nextest_config_values.specs.Duration.{duration_reading}
use Rattle.nextest_config_values.specs.Read.{kind, made_of, or_default, Reading, required, then, value_of, word_reading}
use Rattle.nextest_config_elements.specs.Durations.{milliseconds}
use Rattle.nextest_config_elements.specs.Fields.{allowed_or, default_text, Fields, needed, no_fields, plain}
use Rattle.nextest_config_elements.specs.FromTable.{set_by_table}
use Rattle.nextest_config_elements.specs.declared.field.FaultSeverity.TheVariants.{Error}
use Rattle.nextest_config_elements.specs.declared.field.Shape.TheVariants as shapes
use Rattle.nextest_config_elements.specs.declared.leak_timeout.LeakTimeout.{LeakTimeout}
use Rattle.nextest_config_elements.specs.declared.leak_timeout.LeakTimeoutResult.{LeakTimeoutResult}
use Rattle.nextest_config_elements.specs.declared.leak_timeout.LeakTimeoutResult.TheVariants.{Fail, Pass}

-- a timeout of leaky tests; the period is in nanoseconds
pub record LeakTimeoutRecord : Type 0 where
  pub period : ℕ
  pub result : LeakTimeoutResult

-- what a timeout of leaky tests says
abbrev pub leak_timeout_of : LeakTimeout → LeakTimeoutRecord
leak_timeout_of t = record { period = as_nanos t.period; result = t.result }

-- a timeout of this period with this result
abbrev pub leak_timeout : ℕ → LeakTimeoutResult → LeakTimeoutRecord
leak_timeout period result = record { period = period; result = result }

-- the timeout of leaky tests where none is given
abbrev pub default_leak_timeout : LeakTimeoutRecord
default_leak_timeout = leak_timeout (milliseconds 100) Pass

-- what may become of a leaky test, in the order of the words
abbrev pub leak_timeout_results : List LeakTimeoutResult
leak_timeout_results = Fail ∷ Pass ∷ []

-- the word of what becomes of a leaky test
abbrev pub leak_timeout_word : LeakTimeoutResult → List ℕ
leak_timeout_word Fail = codes "fail"
leak_timeout_word Pass = codes "pass"

pub leak_timeout_reads_back : (result : LeakTimeoutResult)
    → value_of leak_timeout_word leak_timeout_results (leak_timeout_word result) ≡ Some result
leak_timeout_reads_back result = search rules

-- ---- the table form

-- the key of how long a test may leak its handles
abbrev pub period_key : List ℕ
period_key = codes "period"

-- the key of what becomes of a leaky test
abbrev pub result_key : List ℕ
result_key = codes "result"

-- the fields of the table `leak-timeout`
abbrev pub leak_timeout_fields : Fields
leak_timeout_fields =
    plain (needed period_key shapes.ShortDuration Error)
    (plain (allowed_or result_key shapes.LeakTimeoutResult Error (default_text (codes "pass")))
    no_fields)

-- the table `leak-timeout` has a period, and may have a result; other keys don't count
abbrev pub leak_timeout_table : Reading Members LeakTimeoutRecord
leak_timeout_table =
    then (required period_key duration_reading) (λ period.
    made_of (leak_timeout period) (or_default result_key Pass
    (word_reading leak_timeout_results leak_timeout_word leak_timeout_reads_back)))

-- ---- the setting

-- what `leak-timeout` takes, as a refusal says it
abbrev pub leak_timeout_expected : List ℕ
leak_timeout_expected =
    codes "a table ({ period = \"500ms\", result = \"fail\" }) or a string (\"100ms\")"

-- the reading of `leak-timeout`: a text, which is the period of a test that passes where it leaks;
-- or a table (TOML 1.1, "String" and "Table")
abbrev pub leak_timeout_reading : Reading Data (Option LeakTimeoutRecord)
leak_timeout_reading =
    kind as_str (λ text. made_of (λ period. Some (leak_timeout period Pass)) duration_reading)
    (set_by_table leak_timeout_table leak_timeout_expected)
