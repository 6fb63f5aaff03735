-- The readers of settings take for absent keys what is told.
use Rattle.std.specs.Prelude.{codes}
use Rattle.std.proofs.Common.{◌≡◌, ◌≢◌, ◌⊎◌, ◌∙◌, ◌++◌, ℕ, Bool, false, true, List, [], ◌∷◌, Option, Some, None, ap, inl, inr, lit<, refl, rules, subst, sym}
use Rattle.std.proofs.lemmas.Bool.{false≢true}
use Rattle.std.proofs.lemmas.Str.{chars-IsAscii}
use Rattle.std.specs.Char.{is_ascii_digit}
use Rattle.std.specs.Str.Parse.{digits_value}
use Rattle.toml.specs.Data.{boolean, Data, get_member, Members, string}
use Rattle.nextest_config_values.specs.Duration.{AreAll, duration_reading, IsDuration, IsItemText}
use Rattle.nextest_config_values.specs.Decisions.{IsDecided}
use Rattle.nextest_config_values.specs.Read.{bool_reading, BrokenRule, count_reading, either, Reading, rule_check, u32_reading, word_reading}
use Rattle.nextest_config_elements.specs.LeakTimeout as leak
use Rattle.nextest_config_elements.specs.MaxFail as fail
use Rattle.nextest_config_elements.specs.RetryPolicy as retry
use Rattle.nextest_config_elements.specs.SlowTimeout as slow
use Rattle.nextest_config_elements.specs.declared.leak_timeout.LeakTimeoutResult.TheVariants as leak_results
use Rattle.nextest_config_elements.specs.declared.max_fail.TerminateMode.TheVariants as modes
use Rattle.nextest_config_elements.specs.declared.retry_policy.Backoff.TheVariants as backoffs
use Rattle.nextest_config_elements.specs.declared.slow_timeout.SlowTimeoutResult.TheVariants as slow_results
use Rattle.nextest_config_profiles.specs.AbsentKeys.{TakesDefaults, TakesFor}
use Rattle.nextest_config_profiles.proofs.Members.{is_key, key_itself}
use Rattle.nextest_config_profiles.proofs.AbsentKeys.{lacks_or_has, of_table, passes_known, Related, takes_itself, takes_other_default, takes_other_optional, takes_other_required}
use Rattle.nextest_config_profiles.proofs.TakesAlike.{Passes, Takes, takes_checked, takes_made, takes_only, takes_then}

-- ---- durations

-- digits and an `s` write so many seconds
seconds_text : (digits : List ℕ) (seconds : ℕ) → digits ≢ [] → AreAll is_ascii_digit digits → digits_value 10 digits ≡ seconds
    → IsItemText (digits ++ codes "s") (record { number = seconds; unit = 1_000_000_000 })
seconds_text digits seconds some are is = record {
  space = [];
  digits = digits;
  gap = [];
  word = codes "s";
  whole = refl;
  space_is_white = tt;
  some_digits = some;
  digits_are = are;
  number_is = is;
  gap_is_white = tt;
  unit_is = refl;
}

pub no_delay : IsDuration (codes "0s") 0
no_delay = record {
  items = record { number = 0; unit = 1_000_000_000 } ∷ [];
  some = λ none. cc none;
  spelled = (codes "0s", [], chars-IsAscii (codes "0s") (search rules), seconds_text (codes "0") 0 (λ none. cc none) (refl, tt) refl, tt);
  fit = (lit< tt, tt);
  sum = refl;
  sum_fits = lit< tt;
}

pub ten_seconds : IsDuration (codes "10s") slow.default_grace_period
ten_seconds = record {
  items = record { number = 10; unit = 1_000_000_000 } ∷ [];
  some = λ none. cc none;
  spelled = (codes "10s", [], chars-IsAscii (codes "10s") (search rules), seconds_text (codes "10") 10 (λ none. cc none) (refl, (refl, tt)) refl, tt);
  fit = (lit< tt, tt);
  sum = refl;
  sum_fits = lit< tt;
}

-- ---- keys and rules

differ : (a b : List ℕ) → is_key a b ≡ false → a ≢ b
differ a b other same = false≢true (sym other ∙ ap (is_key a) (sym same) ∙ key_itself a)

-- what a rule says of what was read is said of each table
passes_rule : {D : Type 0} {R : D → D → Type 0} (Broken : Type 0) (decided : IsDecided Broken) (rule : BrokenRule) → Passes R (rule_check {D = D} Broken decided rule)
passes_rule Broken decided rule = record { passes_too = λ a b related passed. passed }

module _ {X : Type 0} (reading : Reading Data X) (key : List ℕ) where
  -- what is told of a key, by whether a table has to have it, and what is taken for it
  abbrev IsTold : Bool → Option Data → Type 0
  IsTold required taken = required ≡ false → (value : Data) → taken ≡ Some value → TakesFor reading key value

  needed : (taken : Option Data) → IsTold true taken
  needed taken optional value told = absurd (false≢true (sym optional))

  nothing_told : IsTold false None
  nothing_told optional value told = absurd (cc told)

  value_told : (value : Data) → TakesFor reading key value → IsTold false (Some value)
  value_told value takes optional other told =
      let same : value ≡ other = cc told in
      subst (TakesFor reading key) same takes

-- ---- retries

-- no delay, as it is told
abbrev no_delay_value : Data
no_delay_value = string (codes "0s")

abbrev OfDelay : Members → Members → Type 0
OfDelay = Related retry.delay_key no_delay_value

abbrev OfJitter : Members → Members → Type 0
OfJitter = Related retry.jitter_key (boolean false)

fixed_delay : Takes OfDelay retry.fixed_table
fixed_delay =
    takes_then (takes_other_required retry.delay_key no_delay_value retry.count_key (differ retry.count_key retry.delay_key refl) u32_reading) (λ count.
    takes_then (takes_itself retry.delay_key no_delay_value duration_reading 0 no_delay) (λ delay.
    takes_then (takes_other_default retry.delay_key no_delay_value retry.jitter_key (differ retry.jitter_key retry.delay_key refl) bool_reading false) (λ jitter.
    takes_checked (passes_known retry.delay_key no_delay_value (retry.backoff_key ∷ retry.keys_beside backoffs.Fixed) (retry.keys_beside backoffs.Fixed) (inr (inr (inl refl))))
    (takes_checked (passes_rule (retry.IsJitterAlone delay jitter) (retry.jitter_decided delay jitter) _) (takes_only _)))))

fixed_jitter : Takes OfJitter retry.fixed_table
fixed_jitter =
    takes_then (takes_other_required retry.jitter_key (boolean false) retry.count_key (differ retry.count_key retry.jitter_key refl) u32_reading) (λ count.
    takes_then (takes_other_default retry.jitter_key (boolean false) retry.delay_key (differ retry.delay_key retry.jitter_key refl) duration_reading 0) (λ delay.
    takes_then (takes_itself retry.jitter_key (boolean false) bool_reading false refl) (λ jitter.
    takes_checked (passes_known retry.jitter_key (boolean false) (retry.backoff_key ∷ retry.keys_beside backoffs.Fixed) (retry.keys_beside backoffs.Fixed) (inr (inr (inr (inl refl)))))
    (takes_checked (passes_rule (retry.IsJitterAlone delay jitter) (retry.jitter_decided delay jitter) _) (takes_only _)))))

-- an exponential backoff takes no table without a delay, nor one with none
never_exponential : (members : Members) → (get_member retry.delay_key members ≡ None) ⊎ (get_member retry.delay_key members ≡ Some no_delay_value)
    → (x : retry.RetryPolicyRecord) → retry.exponential_table.means members x → ⊥
never_exponential held (inl lacks) x (count, of_count, (delay, of_delay, rest)) =
    subst (λ found. either found (λ v. duration_reading.means v) (λ y. ⊥) delay) lacks of_delay
never_exponential held (inr has) x (count, of_count, (delay, of_delay, (jitter, of_jitter, (max_delay, of_max_delay, (keys, (rules_passed, is)))))) =
    let here : duration_reading.means no_delay_value delay = subst (λ found. either found (λ v. duration_reading.means v) (λ y. ⊥) delay) has of_delay in
    rules_passed.1.0 (duration_reading.law.one_meaning no_delay_value delay 0 here no_delay)

exponential_delay : Takes OfDelay retry.exponential_table
exponential_delay = record {
  means_too = λ a b related x meant. absurd (never_exponential a (lacks_or_has retry.delay_key no_delay_value a b related) x meant);
}

exponential_jitter : Takes OfJitter retry.exponential_table
exponential_jitter =
    takes_then (takes_other_required retry.jitter_key (boolean false) retry.count_key (differ retry.count_key retry.jitter_key refl) u32_reading) (λ count.
    takes_then (takes_other_required retry.jitter_key (boolean false) retry.delay_key (differ retry.delay_key retry.jitter_key refl) duration_reading) (λ delay.
    takes_then (takes_itself retry.jitter_key (boolean false) bool_reading false refl) (λ jitter.
    takes_then (takes_other_optional retry.jitter_key (boolean false) retry.max_delay_key (differ retry.max_delay_key retry.jitter_key refl) duration_reading) (λ max_delay.
    takes_checked (passes_known retry.jitter_key (boolean false) (retry.backoff_key ∷ retry.keys_beside backoffs.Exponential) (retry.keys_beside backoffs.Exponential) (inr (inr (inr (inl refl)))))
    (takes_checked (record { passes_too = λ a b related passed. passed }) (takes_only _))))))

backoff_delay : (backoff : _) → Takes OfDelay (retry.table_with_backoff backoff)
backoff_delay backoff = search (rules, fixed_delay, exponential_delay)

backoff_jitter : (backoff : _) → Takes OfJitter (retry.table_with_backoff backoff)
backoff_jitter backoff = search (rules, fixed_jitter, exponential_jitter)

delay_taken : TakesFor retry.retry_policy_reading retry.delay_key no_delay_value
delay_taken = record {
  means_same = (of_table retry.delay_key no_delay_value retry.retry_table retry.retries_expected
      (takes_then (takes_other_required retry.delay_key no_delay_value retry.backoff_key (differ retry.backoff_key retry.delay_key refl)
      (word_reading retry.backoffs_in_order retry.backoff_word retry.backoff_reads_back)) backoff_delay)).means_same;
}

jitter_taken : TakesFor retry.retry_policy_reading retry.jitter_key (boolean false)
jitter_taken = record {
  means_same = (of_table retry.jitter_key (boolean false) retry.retry_table retry.retries_expected
      (takes_then (takes_other_required retry.jitter_key (boolean false) retry.backoff_key (differ retry.backoff_key retry.jitter_key refl)
      (word_reading retry.backoffs_in_order retry.backoff_word retry.backoff_reads_back)) backoff_jitter)).means_same;
}

pub retries_told : TakesDefaults retry.retry_policy_reading retry.open_fields
retries_told = (needed _ _ _, (needed _ _ _, (value_told _ _ _ delay_taken, (value_told _ _ _ jitter_taken, (nothing_told _ _, tt)))))

-- ---- fail-fast

terminate_taken : TakesFor fail.fail_fast_reading fail.terminate_key (string (codes "wait"))
terminate_taken = record {
  means_same = (of_table fail.terminate_key (string (codes "wait")) fail.fail_fast_table fail.fail_fast_expected
      (takes_then (takes_other_required fail.terminate_key (string (codes "wait")) fail.max_fail_key (differ fail.max_fail_key fail.terminate_key refl) fail.max_fail_reading) (λ count.
      takes_made (fail.limit_of count) (takes_itself fail.terminate_key (string (codes "wait")) fail.terminate_reading modes.Wait refl)))).means_same;
}

pub fail_fast_told : TakesDefaults fail.fail_fast_reading fail.fail_fast_fields
fail_fast_told = (needed _ _ _, (value_told _ _ _ terminate_taken, tt))

-- ---- slow-timeout

-- the grace period and the result, as they are told
abbrev ten_seconds_value : Data
ten_seconds_value = string (codes "10s")

abbrev fail_value : Data
fail_value = string (codes "fail")

grace_period_taken : TakesFor slow.slow_timeout_reading slow.grace_period_key ten_seconds_value
grace_period_taken = record {
  means_same = (of_table slow.grace_period_key ten_seconds_value slow.slow_timeout_table slow.slow_timeout_expected
      (takes_then (takes_other_required slow.grace_period_key ten_seconds_value slow.period_key (differ slow.period_key slow.grace_period_key refl) duration_reading) (λ period.
      takes_then (takes_other_optional slow.grace_period_key ten_seconds_value slow.terminate_after_key (differ slow.terminate_after_key slow.grace_period_key refl) count_reading) (λ terminate_after.
      takes_then (takes_itself slow.grace_period_key ten_seconds_value duration_reading slow.default_grace_period ten_seconds) (λ grace_period.
      takes_made _ (takes_other_default slow.grace_period_key ten_seconds_value slow.on_timeout_key (differ slow.on_timeout_key slow.grace_period_key refl)
      (word_reading slow.slow_timeout_results slow.slow_timeout_word slow.slow_timeout_reads_back) slow_results.Fail)))))).means_same;
}

on_timeout_taken : TakesFor slow.slow_timeout_reading slow.on_timeout_key fail_value
on_timeout_taken = record {
  means_same = (of_table slow.on_timeout_key fail_value slow.slow_timeout_table slow.slow_timeout_expected
      (takes_then (takes_other_required slow.on_timeout_key fail_value slow.period_key (differ slow.period_key slow.on_timeout_key refl) duration_reading) (λ period.
      takes_then (takes_other_optional slow.on_timeout_key fail_value slow.terminate_after_key (differ slow.terminate_after_key slow.on_timeout_key refl) count_reading) (λ terminate_after.
      takes_then (takes_other_default slow.on_timeout_key fail_value slow.grace_period_key (differ slow.grace_period_key slow.on_timeout_key refl) duration_reading slow.default_grace_period) (λ grace_period.
      takes_made _ (takes_itself slow.on_timeout_key fail_value
      (word_reading slow.slow_timeout_results slow.slow_timeout_word slow.slow_timeout_reads_back) slow_results.Fail refl)))))).means_same;
}

pub slow_timeout_told : TakesDefaults slow.slow_timeout_reading slow.slow_timeout_fields
slow_timeout_told = (needed _ _ _, (nothing_told _ _, (value_told _ _ _ grace_period_taken, (value_told _ _ _ on_timeout_taken, tt))))

-- ---- leak-timeout

result_taken : TakesFor leak.leak_timeout_reading leak.result_key (string (codes "pass"))
result_taken = record {
  means_same = (of_table leak.result_key (string (codes "pass")) leak.leak_timeout_table leak.leak_timeout_expected
      (takes_then (takes_other_required leak.result_key (string (codes "pass")) leak.period_key (differ leak.period_key leak.result_key refl) duration_reading) (λ period.
      takes_made (leak.leak_timeout period) (takes_itself leak.result_key (string (codes "pass"))
      (word_reading leak.leak_timeout_results leak.leak_timeout_word leak.leak_timeout_reads_back) leak_results.Pass refl)))).means_same;
}

pub leak_timeout_told : TakesDefaults leak.leak_timeout_reading leak.leak_timeout_fields
leak_timeout_told = (needed _ _ _, (value_told _ _ _ result_taken, tt))
