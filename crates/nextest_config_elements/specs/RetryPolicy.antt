-- The setting `retries`: the maximum number of retries of a failed test, and when they come
-- (nextest's configuration reference).
use Rattle.std.specs.Prelude.{◌≡◌, ◌<◌, ℕ, ℤ, pos, negsuc, Bool, true, false, List, [], ◌∷◌, ◌++◌, codes, Option, Some, None, option_map}
use Rattle.std.proofs.Common.{ap, inl, inr, refl, rules}
use Rattle.std.specs.Duration.{as_nanos}
use Rattle.std.specs.Fmt.{decimal}
use Rattle.toml.specs.Data.{boolean, Data, Members, as_integer}
use Rattle.nextest_config_values.specs.Decisions.{below_decided, both_decided, IsDecided, same_decided, true_decided}
use Rattle.nextest_config_values.specs.Duration.{duration_reading}
use Rattle.nextest_config_values.specs.Read.Plain.{u32_decided}
use Rattle.nextest_config_values.specs.Read.{after_check, bool_reading, both, Check, count_zero, delay_zero, in_range, IsU32, jitter_without_delay, kind, made_of, max_delay_below_delay, max_delay_zero, only, optional, or_default, outside, Reading, required, rule, rule_check, then, u32_reading, value_of, word_reading}
use Rattle.nextest_config_elements.specs.Fields.{allowed, allowed_or, by_backoff, default_text, Fields, key_rule, KeyRule, needed, needed_or, no_fields, nothing, Parts, plain, taken}
use Rattle.nextest_config_elements.specs.FromTable.{set_by_table}
use Rattle.nextest_config_elements.specs.UnknownKeysLaws.{keys_check}
use Rattle.nextest_config_elements.specs.declared.field.FaultSeverity.TheVariants.{Error}
use Rattle.nextest_config_elements.specs.declared.field.Shape.TheVariants as shapes
use Rattle.nextest_config_elements.specs.declared.retry_policy.Backoff.{Backoff}
use Rattle.nextest_config_elements.specs.declared.retry_policy.Backoff.TheVariants as backoffs
use Rattle.nextest_config_elements.specs.declared.retry_policy.FlakyResult.{FlakyResult}
use Rattle.nextest_config_elements.specs.declared.retry_policy.FlakyResult.TheVariants as results
use Rattle.nextest_config_elements.specs.declared.retry_policy.RetryPolicy.{RetryPolicy}
use Rattle.nextest_config_elements.specs.declared.retry_policy.RetryPolicy.TheVariants as policies

-- a policy with the same delay between all tries, in nanoseconds
pub record FixedPolicy : Type 0 where
  pub count : ℕ
  pub delay : ℕ
  pub jitter : Bool

-- a policy with a delay that grows from try to try, up to the maximum, if there is one; both in
-- nanoseconds
pub record ExponentialPolicy : Type 0 where
  pub count : ℕ
  pub delay : ℕ
  pub jitter : Bool
  pub max_delay : Option ℕ

-- how often a test that fails is tried again, and after what delays
pub data RetryPolicyRecord : Type 0 where
  fixed : FixedPolicy → RetryPolicyRecord
  exponential : ExponentialPolicy → RetryPolicyRecord

-- what a retry policy says
abbrev pub retry_policy_of : RetryPolicy → RetryPolicyRecord
retry_policy_of (policies.Fixed count delay jitter) =
    fixed (record { count = count; delay = as_nanos delay; jitter = jitter })
retry_policy_of (policies.Exponential count delay jitter max_delay) =
    exponential (record {
      count = count;
      delay = as_nanos delay;
      jitter = jitter;
      max_delay = option_map as_nanos max_delay;
    })

-- the policy of so many retries, with no delay
abbrev pub without_delay : ℕ → RetryPolicyRecord
without_delay count = fixed (record { count = count; delay = 0; jitter = false })

-- the maximum number of retries of a policy
abbrev pub count_of : RetryPolicyRecord → ℕ
count_of (fixed policy) = policy.count
count_of (exponential policy) = policy.count

-- what is said of a flaky test that passed on this attempt of so many: nothing where it passes
abbrev pub fail_message : FlakyResult → ℕ → ℕ → Option (List ℕ)
fail_message results.Pass attempt total_attempts = None
fail_message results.Fail attempt total_attempts =
    Some (codes "test passed on attempt "
    ++ (decimal attempt ++ (codes "/"
    ++ (decimal total_attempts ++ codes " but is configured to fail when flaky"))))

-- ---- the words of the results of flaky tests

-- what may become of a flaky test, in the order of the words
abbrev pub flaky_results : List FlakyResult
flaky_results = results.Fail ∷ results.Pass ∷ []

-- the word of what becomes of a flaky test
abbrev pub flaky_result_word : FlakyResult → List ℕ
flaky_result_word results.Fail = codes "fail"
flaky_result_word results.Pass = codes "pass"

pub flaky_result_reads_back : (result : FlakyResult)
    → value_of flaky_result_word flaky_results (flaky_result_word result) ≡ Some result
flaky_result_reads_back result = search rules

-- the reading of `flaky-result`: one of its words
abbrev pub flaky_result_reading : Reading Data FlakyResult
flaky_result_reading = word_reading flaky_results flaky_result_word flaky_result_reads_back

-- ---- the words of the kinds of backoff

-- the word of a kind of backoff
abbrev pub backoff_word : Backoff → List ℕ
backoff_word backoffs.Fixed = codes "fixed"
backoff_word backoffs.Exponential = codes "exponential"

-- the kinds of backoff, in the order of their words
abbrev pub backoffs_in_order : List Backoff
backoffs_in_order = backoffs.Fixed ∷ backoffs.Exponential ∷ []

pub backoff_reads_back : (backoff : Backoff)
    → value_of backoff_word backoffs_in_order (backoff_word backoff) ≡ Some backoff
backoff_reads_back backoff = search rules

-- ---- the keys of a table

-- the key of the kind of backoff
abbrev pub backoff_key : List ℕ
backoff_key = codes "backoff"

-- the key of the number of retries
abbrev pub count_key : List ℕ
count_key = codes "count"

-- the key of the delay, between all tries or before the first retry
abbrev pub delay_key : List ℕ
delay_key = codes "delay"

-- the key of whether delays vary at random
abbrev pub jitter_key : List ℕ
jitter_key = codes "jitter"

-- the key of the greatest delay
abbrev pub max_delay_key : List ℕ
max_delay_key = codes "max-delay"

-- the keys that stand beside `backoff`
abbrev pub keys_beside : Backoff → List (List ℕ)
keys_beside backoffs.Fixed = count_key ∷ delay_key ∷ jitter_key ∷ []
keys_beside backoffs.Exponential = count_key ∷ delay_key ∷ jitter_key ∷ max_delay_key ∷ []

-- the rule of `delay`, in a table that has to have it, or may have it
abbrev pub delay_rule : Bool → KeyRule
delay_rule required = key_rule required delay_key shapes.Duration Error (default_text (codes "0s"))

-- the fields up to `jitter`, with a rule for the delay, and others behind them
abbrev pub up_to_jitter : KeyRule → Fields → Fields
up_to_jitter delay rest =
    plain (needed_or backoff_key shapes.Backoff Error (default_text (codes "fixed")))
    (plain (needed count_key shapes.U32 Error)
    (plain delay
    (plain (allowed_or jitter_key shapes.Boolean Error (taken (Some (boolean false)))) rest)))

-- the field of the greatest delay
abbrev pub max_delay_fields : Fields
max_delay_fields = plain (allowed max_delay_key shapes.Duration Error) no_fields

-- the fields of a table with a fixed backoff
abbrev pub fixed_fields : Fields
fixed_fields = up_to_jitter (delay_rule false) no_fields

-- the fields of a table with an exponential backoff
abbrev pub exponential_fields : Fields
exponential_fields = up_to_jitter (delay_rule true) max_delay_fields

-- the fields of a table without a backoff, which may turn out to be either
abbrev pub open_fields : Fields
open_fields = up_to_jitter (delay_rule false) max_delay_fields

-- what stands in the table `retries`, by its backoff
abbrev pub retries_parts : Parts
retries_parts = by_backoff fixed_fields exponential_fields open_fields

-- the table has these keys alone; the first other one is the fault
abbrev pub other_keys : Backoff → Check Members
other_keys backoff = keys_check (backoff_key ∷ keys_beside backoff) (keys_beside backoff)

-- ---- a fixed backoff

-- there is jitter, and no delay
abbrev pub IsJitterAlone : ℕ → Bool → Type 0
IsJitterAlone delay jitter = (jitter ≡ true) × (delay ≡ 0)

pub jitter_decided : (delay : ℕ) (jitter : Bool) → IsDecided (IsJitterAlone delay jitter)
jitter_decided delay jitter = both_decided (true_decided jitter) (same_decided delay 0)

-- the table of a fixed backoff: the keys in turn, no other key, and then the rule
abbrev pub fixed_table : Reading Members RetryPolicyRecord
fixed_table =
    then (required count_key u32_reading) (λ count.
    then (or_default delay_key 0 duration_reading) (λ delay.
    then (or_default jitter_key false bool_reading) (λ jitter.
    after_check (other_keys backoffs.Fixed)
    (rule (IsJitterAlone delay jitter) (jitter_decided delay jitter) jitter_without_delay
    (only (fixed (record { count = count; delay = delay; jitter = jitter })))))))

-- ---- an exponential backoff

-- the maximum delay is below the first one
abbrev pub IsMaxBelow : ℕ → Option ℕ → Type 0
IsMaxBelow delay max_delay = (max : ℕ) × (max_delay ≡ Some max) × (max < delay)

pub zero_max_decided : (max_delay : Option ℕ) → IsDecided (max_delay ≡ Some 0)
zero_max_decided None = inr (λ same. cc same)
zero_max_decided (Some max) = elim (same_decided max 0) [
  | inl none ↦ inl (ap Some none)
  | inr some ↦ inr (λ same. some (cc same))
]

pub max_below_decided : (delay : ℕ) (max_delay : Option ℕ) → IsDecided (IsMaxBelow delay max_delay)
max_below_decided delay None = inr (λ found. cc found.1)
max_below_decided delay (Some max) = elim (below_decided max delay) [
  | inl below ↦ inl (max, refl, below)
  | inr over ↦ inr (λ found. let same : max ≡ found.0 = cc found.1 in over (rw same found.2))
]

-- the rules of an exponential backoff, in turn
abbrev pub exponential_rules : {D : Type 0} → ℕ → ℕ → Option ℕ → Check D
exponential_rules count delay max_delay =
    both (rule_check (count ≡ 0) (same_decided count 0) count_zero)
    (both (rule_check (delay ≡ 0) (same_decided delay 0) delay_zero)
    (both (rule_check (max_delay ≡ Some 0) (zero_max_decided max_delay) max_delay_zero)
    (rule_check (IsMaxBelow delay max_delay) (max_below_decided delay max_delay)
    max_delay_below_delay)))

-- the table of an exponential backoff: the keys in turn, no other key, and then the rules
abbrev pub exponential_table : Reading Members RetryPolicyRecord
exponential_table =
    then (required count_key u32_reading) (λ count.
    then (required delay_key duration_reading) (λ delay.
    then (or_default jitter_key false bool_reading) (λ jitter.
    then (optional max_delay_key duration_reading) (λ max_delay.
    after_check (other_keys backoffs.Exponential)
    (after_check (exponential_rules count delay max_delay)
    (only (exponential (record {
      count = count;
      delay = delay;
      jitter = jitter;
      max_delay = max_delay;
    }))))))))

-- ---- the table form

-- a table with this backoff
abbrev pub table_with_backoff : Backoff → Reading Members RetryPolicyRecord
table_with_backoff backoffs.Fixed = fixed_table
table_with_backoff backoffs.Exponential = exponential_table

-- the table `retries`: its backoff, and the keys of that
abbrev pub retry_table : Reading Members RetryPolicyRecord
retry_table =
    then (required backoff_key (word_reading backoffs_in_order backoff_word backoff_reads_back))
    table_with_backoff

-- ---- the setting

-- what `retries` takes, as a refusal says it
abbrev pub retries_expected : List ℕ
retries_expected = codes "a table ({ backoff = \"fixed\", count = 5 }) or a number (5)"

-- an integer is a number of retries with no delay: it isn't negative, and fits a u32
abbrev pub retry_number : ℤ → Reading Data RetryPolicyRecord
retry_number (pos number) =
    made_of without_delay (in_range IsU32 u32_decided (codes "a u32") (pos number))
retry_number (negsuc number) = outside retries_expected

-- the reading of `retries`: an integer, or a table (TOML 1.1, "Integer" and "Table")
abbrev pub retry_policy_reading : Reading Data (Option RetryPolicyRecord)
retry_policy_reading =
    kind as_integer (λ number. made_of Some (retry_number number))
    (set_by_table retry_table retries_expected)
