-- The readings of settings take values with the same leaves alike.
use Rattle.std.specs.Prelude.{codes}
use Rattle.std.proofs.Common.{◌≡◌, ℕ, ℤ, pos, negsuc, Bool, false, List, [], ◌∷◌, Option, Some, None, refl, rules}
use Rattle.toml.specs.Data.{as_bool, as_integer, as_str, Data}
use Rattle.nextest_config_values.specs.Decisions.{IsDecided}
use Rattle.nextest_config_values.specs.Duration.{duration_reading}
use Rattle.nextest_config_values.specs.Read.Fault.{duration_expected}
use Rattle.nextest_config_values.specs.Read.Plain.{count_decided, u32_decided}
use Rattle.nextest_config_values.specs.Read.{bool_reading, count_reading, in_range, IsCount, IsU32, jitter_without_delay, made_of, number_reading, Reading, rule_check, text_expected, text_reading, u32_reading, value_of, word_reading}
use Rattle.nextest_config_elements.specs.Junit.{flaky_fail_reads_back, flaky_fail_statuses, flaky_fail_word}
use Rattle.nextest_config_elements.specs.LeakTimeout as leak
use Rattle.nextest_config_elements.specs.MaxFail as fail
use Rattle.nextest_config_elements.specs.MaxFail.FailFast.{mode_reads_back}
use Rattle.nextest_config_elements.specs.Priority.{priority_expected, priority_reading}
use Rattle.nextest_config_elements.specs.Readers.{reader_of}
use Rattle.nextest_config_elements.specs.ReportSkipPolicy.{report_skip_policies, report_skip_reads_back, report_skip_word}
use Rattle.nextest_config_elements.specs.RetryPolicy as retry
use Rattle.nextest_config_elements.specs.SlowTimeout as slow
use Rattle.nextest_config_elements.specs.UnknownKeysLaws.{keys_check}
use Rattle.nextest_config_elements.specs.TestThreads.{test_threads_expected, test_threads_reading}
use Rattle.nextest_config_elements.specs.ThreadsRequired.{threads_expected, threads_reading}
use Rattle.nextest_config_elements.specs.declared.field.Shape.{Shape}
use Rattle.nextest_config_elements.specs.declared.field.Shape.TheVariants as shapes
use Rattle.nextest_config_elements.specs.declared.leak_timeout.LeakTimeoutResult.TheVariants as leak_results
use Rattle.nextest_config_elements.specs.declared.max_fail.TerminateMode.TheVariants as modes
use Rattle.nextest_config_elements.specs.declared.slow_timeout.SlowTimeoutResult.TheVariants as slow_results
use Rattle.nextest_config_elements.specs.declared.threads_required.ThreadsRequired.TheVariants.{Count}
use Rattle.nextest_config_profiles.specs.Alike.{AreAlike, AreTakenAlike, TakesAlike}
use Rattle.nextest_config_profiles.proofs.Alike.{AlikeMembers}
use Rattle.nextest_config_profiles.proofs.TakesAlike.{of_values, Passes, passes_keys, Takes, takes_checked, takes_default, takes_kept, takes_made, takes_none, takes_only, takes_optional, takes_required, takes_table, takes_then, takes_value}

-- ---- plain values

pub takes_bool : Takes AreAlike bool_reading
takes_bool = takes_value (λ truth. takes_only truth) (takes_none (codes "a boolean")) as_bool (λ members. refl)

pub takes_text : Takes AreAlike text_reading
takes_text = takes_kept (takes_value (λ text. takes_only text) (takes_none text_expected) as_str (λ members. refl))

module _ (IsIn : ℕ → Type 0) (decided : (number : ℕ) → IsDecided (IsIn number)) (expected : List ℕ) where
  takes_range : (held : ℤ) → Takes AreAlike (in_range IsIn decided expected held)
  takes_range held = record { means_too = λ v w alike x meant. meant }

  takes_number : Takes AreAlike (number_reading IsIn decided expected)
  takes_number = takes_value takes_range (takes_none expected) as_integer (λ members. refl)

takes_u32 : Takes AreAlike u32_reading
takes_u32 = takes_number IsU32 u32_decided (codes "u32")

takes_count : Takes AreAlike count_reading
takes_count = takes_number IsCount count_decided (codes "a nonzero usize")

pub takes_duration : Takes AreAlike duration_reading
takes_duration = takes_value (λ held. record { means_too = λ v w alike x meant. meant }) (takes_none duration_expected) as_str (λ members. refl)

module _ {X : Type 0} (all : List X) (word : X → List ℕ) (reads_back : (x : X) → value_of word all (word x) ≡ Some x) where
  pub takes_word : Takes AreAlike (word_reading all word reads_back)
  takes_word = takes_value (λ held. record { means_too = λ v w alike x meant. meant }) (takes_none text_expected) as_str (λ members. refl)

-- ---- threads-required

pub takes_threads : Takes AreAlike threads_reading
takes_threads = takes_value (λ number. takes_made Count (takes_range IsCount count_decided threads_expected number))
    (takes_value (λ held. record { means_too = λ v w alike x meant. meant }) (takes_none threads_expected) as_str (λ members. refl)) as_integer (λ members. refl)

-- ---- retries

passes_jitter : (delay : ℕ) (jitter : Bool) → Passes AlikeMembers (rule_check (retry.IsJitterAlone delay jitter) (retry.jitter_decided delay jitter) jitter_without_delay)
passes_jitter delay jitter = record { passes_too = λ a b alike passed. passed }

passes_rules : (count delay : ℕ) (max_delay : Option ℕ) → Passes AlikeMembers (retry.exponential_rules count delay max_delay)
passes_rules count delay max_delay = record { passes_too = λ a b alike passed. passed }

-- the keys of a fixed backoff beside `backoff`
abbrev fixed_keys : List (List ℕ)
fixed_keys = retry.count_key ∷ retry.delay_key ∷ retry.jitter_key ∷ []

-- those of an exponential one
abbrev exponential_keys : List (List ℕ)
exponential_keys = retry.count_key ∷ retry.delay_key ∷ retry.jitter_key ∷ retry.max_delay_key ∷ []

passes_others : (keys : List (List ℕ)) → Passes AlikeMembers (keys_check (retry.backoff_key ∷ keys) keys)
passes_others keys = passes_keys (retry.backoff_key ∷ keys) keys

takes_fixed : Takes AlikeMembers retry.fixed_table
takes_fixed =
    takes_then (takes_required retry.count_key takes_u32) (λ count.
    takes_then (takes_default retry.delay_key takes_duration 0) (λ delay.
    takes_then (takes_default retry.jitter_key takes_bool false) (λ jitter.
    takes_checked (passes_others fixed_keys) (takes_checked (passes_jitter delay jitter) (takes_only _)))))

takes_exponential : Takes AlikeMembers retry.exponential_table
takes_exponential =
    takes_then (takes_required retry.count_key takes_u32) (λ count.
    takes_then (takes_required retry.delay_key takes_duration) (λ delay.
    takes_then (takes_default retry.jitter_key takes_bool false) (λ jitter.
    takes_then (takes_optional retry.max_delay_key takes_duration) (λ max_delay.
    takes_checked (passes_others exponential_keys) (takes_checked (passes_rules count delay max_delay) (takes_only _))))))

takes_backoff : (backoff : _) → Takes AlikeMembers (retry.table_with_backoff backoff)
takes_backoff backoff = search (rules, takes_fixed, takes_exponential)

takes_retry_number : (number : ℤ) → Takes AreAlike (retry.retry_number number)
takes_retry_number (pos number) = takes_made retry.without_delay (takes_range IsU32 u32_decided (codes "a u32") (pos number))
takes_retry_number (negsuc number) = record { means_too = λ v w alike x meant. meant }

pub takes_retries : Takes AreAlike retry.retry_policy_reading
takes_retries = takes_value (λ number. takes_made Some (takes_retry_number number))
    (takes_table (takes_then (takes_required retry.backoff_key (takes_word retry.backoffs_in_order retry.backoff_word retry.backoff_reads_back)) takes_backoff) retry.retries_expected)
    as_integer (λ members. refl)

-- ---- fail-fast

takes_max_fail : Takes AreAlike fail.max_fail_reading
takes_max_fail = takes_value (λ number. takes_made _ (takes_range IsCount count_decided fail.max_fail_expected number))
    (takes_value (λ held. record { means_too = λ v w alike x meant. meant }) (takes_none fail.max_fail_expected) as_str (λ members. refl)) as_integer (λ members. refl)

takes_fail_table : Takes AlikeMembers fail.fail_fast_table
takes_fail_table = takes_then (takes_required fail.max_fail_key takes_max_fail) (λ count.
    takes_made (fail.limit_of count) (takes_default fail.terminate_key (takes_word (modes.Wait ∷ modes.Immediate ∷ []) fail.mode_word mode_reads_back) modes.Wait))

pub takes_fail_fast : Takes AreAlike fail.fail_fast_reading
takes_fail_fast = takes_value (λ truth. takes_only (Some (fail.fail_fast_limit truth))) (takes_table takes_fail_table fail.fail_fast_expected) as_bool (λ members. refl)

-- ---- slow-timeout

takes_slow_table : Takes AlikeMembers slow.slow_timeout_table
takes_slow_table =
    takes_then (takes_required slow.period_key takes_duration) (λ period.
    takes_then (takes_optional slow.terminate_after_key takes_count) (λ terminate_after.
    takes_then (takes_default slow.grace_period_key takes_duration slow.default_grace_period) (λ grace_period.
    takes_made _ (takes_default slow.on_timeout_key (takes_word slow.slow_timeout_results slow.slow_timeout_word slow.slow_timeout_reads_back) slow_results.Fail))))

takes_slow_text : (text : List ℕ) → Takes AreAlike (slow.slow_timeout_text text)
takes_slow_text [] = takes_only None
takes_slow_text (b ∷ rest) = takes_made (λ period. Some (slow.with_period period)) takes_duration

pub takes_slow : Takes AreAlike slow.slow_timeout_reading
takes_slow = takes_value takes_slow_text (takes_table takes_slow_table slow.slow_timeout_expected) as_str (λ members. refl)

-- ---- leak-timeout

takes_leak_table : Takes AlikeMembers leak.leak_timeout_table
takes_leak_table = takes_then (takes_required leak.period_key takes_duration) (λ period.
    takes_made (leak.leak_timeout period) (takes_default leak.result_key (takes_word leak.leak_timeout_results leak.leak_timeout_word leak.leak_timeout_reads_back) leak_results.Pass))

pub takes_leak : Takes AreAlike leak.leak_timeout_reading
takes_leak = takes_value (λ text. takes_made (λ period. Some (leak.leak_timeout period leak_results.Pass)) takes_duration)
    (takes_table takes_leak_table leak.leak_timeout_expected) as_str (λ members. refl)

-- ---- of all shapes

takes_test_threads : Takes AreAlike test_threads_reading
takes_test_threads = takes_value (λ number. record { means_too = λ v w alike x meant. meant })
    (takes_value (λ held. record { means_too = λ v w alike x meant. meant }) (takes_none test_threads_expected) as_str (λ members. refl)) as_integer (λ members. refl)

takes_priority : Takes AreAlike priority_reading
takes_priority = takes_value (λ held. record { means_too = λ v w alike x meant. meant }) (takes_none priority_expected) as_integer (λ members. refl)

always : {X : Type 0} {reading : Reading Data X} → Takes AreAlike reading → TakesAlike (made_of Some reading)
always takes = of_values (takes_made Some takes)

pub text_taken : TakesAlike (made_of Some text_reading)
text_taken = always takes_text

pub shape_taken : (shape : Shape) → AreTakenAlike (reader_of shape)
shape_taken shapes.Retries = of_values takes_retries
shape_taken shapes.Backoff = always (takes_word retry.backoffs_in_order retry.backoff_word retry.backoff_reads_back)
shape_taken shapes.FlakyResult = always (takes_word retry.flaky_results retry.flaky_result_word retry.flaky_result_reads_back)
shape_taken shapes.ThreadsRequired = always takes_threads
shape_taken shapes.FailFast = of_values takes_fail_fast
shape_taken shapes.MaxFail = always takes_max_fail
shape_taken shapes.TerminateMode = always (takes_word (modes.Wait ∷ modes.Immediate ∷ []) fail.mode_word mode_reads_back)
shape_taken shapes.SlowTimeout = of_values takes_slow
shape_taken shapes.SlowTimeoutResult = always (takes_word slow.slow_timeout_results slow.slow_timeout_word slow.slow_timeout_reads_back)
shape_taken shapes.LeakTimeout = of_values takes_leak
shape_taken shapes.LeakTimeoutResult = always (takes_word leak.leak_timeout_results leak.leak_timeout_word leak.leak_timeout_reads_back)
shape_taken shapes.Duration = always takes_duration
shape_taken shapes.ShortDuration = always takes_duration
shape_taken shapes.Priority = always takes_priority
shape_taken shapes.Boolean = always takes_bool
shape_taken shapes.U32 = always takes_u32
shape_taken shapes.Count = always takes_count
shape_taken shapes.ReportSkipPolicy = always (takes_word report_skip_policies report_skip_word report_skip_reads_back)
shape_taken shapes.FlakyFailStatus = always (takes_word flaky_fail_statuses flaky_fail_word flaky_fail_reads_back)
shape_taken shapes.Threads = always takes_test_threads
shape_taken shape = tt
