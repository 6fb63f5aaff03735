-- The setting `slow-timeout`: when a test is slow, and when it is terminated (nextest's
-- configuration reference).
use Rattle.std.specs.Prelude.{◌≡◌, ℕ, List, [], ◌∷◌, codes, Option, Some, None}
use Rattle.std.proofs.Common.{rules}
use Rattle.std.specs.Duration.{as_nanos}
use Rattle.toml.specs.Data.{Data, Members, as_str}
use Rattle.nextest_config_values.specs.Duration.{duration_reading}
use Rattle.nextest_config_values.specs.Read.{count_reading, kind, made_of, only, optional, or_default, Reading, required, then, value_of, word_reading}
use Rattle.nextest_config_elements.specs.Durations.{seconds}
use Rattle.nextest_config_elements.specs.Fields.{allowed, allowed_or, default_text, Fields, needed, no_fields, plain}
use Rattle.nextest_config_elements.specs.FromTable.{set_by_table}
use Rattle.nextest_config_elements.specs.declared.field.FaultSeverity.TheVariants.{Error, ErrorUnlessConverted}
use Rattle.nextest_config_elements.specs.declared.field.Shape.TheVariants as shapes
use Rattle.nextest_config_elements.specs.declared.slow_timeout.SlowTimeout.{SlowTimeout}
use Rattle.nextest_config_elements.specs.declared.slow_timeout.SlowTimeoutResult.{SlowTimeoutResult}
use Rattle.nextest_config_elements.specs.declared.slow_timeout.SlowTimeoutResult.TheVariants.{Fail, Pass}

-- a timeout of slow tests; the period and the grace period are in nanoseconds
pub record SlowTimeoutRecord : Type 0 where
  pub period : ℕ
  pub terminate_after : Option ℕ
  pub grace_period : ℕ
  pub on_timeout : SlowTimeoutResult

-- what a timeout of slow tests says
abbrev pub slow_timeout_of : SlowTimeout → SlowTimeoutRecord
slow_timeout_of t = record {
  period = as_nanos t.period;
  terminate_after = t.terminate_after;
  grace_period = as_nanos t.grace_period;
  on_timeout = t.on_timeout;
}

-- ---- the words of the results

-- what may become of a test that is terminated, in the order of the words
abbrev pub slow_timeout_results : List SlowTimeoutResult
slow_timeout_results = Fail ∷ Pass ∷ []

-- the word of what becomes of a test that is terminated
abbrev pub slow_timeout_word : SlowTimeoutResult → List ℕ
slow_timeout_word Fail = codes "fail"
slow_timeout_word Pass = codes "pass"

pub slow_timeout_reads_back : (result : SlowTimeoutResult)
    → value_of slow_timeout_word slow_timeout_results (slow_timeout_word result) ≡ Some result
slow_timeout_reads_back result = search rules

-- ---- the table form

-- the key of how long a test runs until it is slow
abbrev pub period_key : List ℕ
period_key = codes "period"

-- the key of after how many periods a test is terminated
abbrev pub terminate_after_key : List ℕ
terminate_after_key = codes "terminate-after"

-- the grace period where none is given, in nanoseconds
abbrev pub default_grace_period : ℕ
default_grace_period = seconds 10

-- the key of how long a test that is terminated has to end by itself
abbrev pub grace_period_key : List ℕ
grace_period_key = codes "grace-period"

-- the key of what becomes of a test that is terminated
abbrev pub on_timeout_key : List ℕ
on_timeout_key = codes "on-timeout"

-- the fields of the table `slow-timeout`
abbrev pub slow_timeout_fields : Fields
slow_timeout_fields =
    plain (needed period_key shapes.Duration Error)
    (plain (allowed terminate_after_key shapes.Count ErrorUnlessConverted)
    (plain (allowed_or grace_period_key shapes.Duration Error (default_text (codes "10s")))
    (plain (allowed_or on_timeout_key shapes.SlowTimeoutResult Error (default_text (codes "fail")))
    no_fields)))

-- the table `slow-timeout` has a period, and may have the rest; other keys don't count
abbrev pub slow_timeout_table : Reading Members SlowTimeoutRecord
slow_timeout_table =
    then (required period_key duration_reading) (λ period.
    then (optional terminate_after_key count_reading) (λ terminate_after.
    then (or_default grace_period_key default_grace_period duration_reading) (λ grace_period.
    made_of (λ on_timeout. record {
      period = period;
      terminate_after = terminate_after;
      grace_period = grace_period;
      on_timeout = on_timeout;
    }) (or_default on_timeout_key Fail
    (word_reading slow_timeout_results slow_timeout_word slow_timeout_reads_back)))))

-- ---- the setting

-- a timeout of this period alone
abbrev pub with_period : ℕ → SlowTimeoutRecord
with_period period =
    record {
      period = period;
      terminate_after = None;
      grace_period = default_grace_period;
      on_timeout = Fail;
    }

-- a text means no timeout where it is empty; any other is a period alone
abbrev pub slow_timeout_text : List ℕ → Reading Data (Option SlowTimeoutRecord)
slow_timeout_text [] = only None
slow_timeout_text (b ∷ rest) = made_of (λ period. Some (with_period period)) duration_reading

-- what `slow-timeout` takes, as a refusal says it
abbrev pub slow_timeout_expected : List ℕ
slow_timeout_expected =
    codes "a table ({ period = \"60s\", terminate-after = 2 }) or a string (\"60s\")"

-- the reading of `slow-timeout`: a text, or a table (TOML 1.1, "String" and "Table")
abbrev pub slow_timeout_reading : Reading Data (Option SlowTimeoutRecord)
slow_timeout_reading =
    kind as_str slow_timeout_text (set_by_table slow_timeout_table slow_timeout_expected)
