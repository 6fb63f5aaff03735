-- The rules of a table `retries`, whatever else is wrong with it: each is judged by the keys that
-- it speaks of, and none is broken by a key that has a fault.
use Rattle.std.specs.Prelude.{◌<◌, ℕ, true, false, List, Option, Some, None, option_and_then}
use Rattle.std.proofs.Common.{inl}
use Rattle.toml.specs.Data.{Data, Members, as_str, get_member}
use Rattle.nextest_config_values.specs.Decisions.{below_decided, both_decided, IsDecided, same_decided}
use Rattle.nextest_config_values.specs.Duration.{duration_reading}
use Rattle.nextest_config_values.specs.Read.{Always, bool_reading, both, BrokenRule, Check, count_zero, delay_zero, jitter_without_delay, max_delay_below_delay, max_delay_zero, or_default, Reading, required, rule_check, u32_reading, value_of}
use Rattle.nextest_config_elements.specs.ReadingDecisions.{meaning_decided, same_truth_decided, such_decided}
use Rattle.nextest_config_elements.specs.RetryPolicy.{backoff_key, backoff_word, backoffs_in_order, count_key, delay_key, jitter_key, max_delay_key}
use Rattle.nextest_config_elements.specs.declared.retry_policy.Backoff.{Backoff}
use Rattle.nextest_config_elements.specs.declared.retry_policy.Backoff.TheVariants as backoffs

-- the backoff that a table names: none where `backoff` is absent, no text, or no word of one
abbrev pub backoff_in : Members → Option Backoff
backoff_in members = option_and_then (value_of backoff_word backoffs_in_order)
    (option_and_then as_str (get_member backoff_key members))

-- ---- when a rule is broken

-- the table has the key, and its value means this
abbrev pub HasAt : {X : Type 0} → List ℕ → Reading Data X → Members → X → Type 0
HasAt key reading = (required key reading).means

-- there is jitter, and the delay is zero, as it is where none is given
abbrev pub LacksDelay : Members → Type 0
LacksDelay members = (or_default jitter_key false bool_reading).means members true
    × (or_default delay_key 0 duration_reading).means members 0

-- the number of retries is zero
abbrev pub HasZeroCount : Members → Type 0
HasZeroCount members = HasAt count_key u32_reading members 0

-- there is a duration at this key, which is zero
abbrev pub HasZeroAt : List ℕ → Members → Type 0
HasZeroAt key members = HasAt key duration_reading members 0

-- there is a greatest delay, which is below the first one
abbrev pub IsMaxBelowDelay : Members → Type 0
IsMaxBelowDelay members = (max : ℕ) × HasAt max_delay_key duration_reading members max
    × ((delay : ℕ) × HasAt delay_key duration_reading members delay × (max < delay))

-- each of these is decided

pub lacks_delay_decided : (members : Members) → IsDecided (LacksDelay members)
lacks_delay_decided members = both_decided
    (meaning_decided (or_default jitter_key false bool_reading) members same_truth_decided true)
    (meaning_decided (or_default delay_key 0 duration_reading) members same_decided 0)

pub zero_count_decided : (members : Members) → IsDecided (HasZeroCount members)
zero_count_decided members =
    meaning_decided (required count_key u32_reading) members same_decided 0

pub zero_decided : (key : List ℕ) (members : Members) → IsDecided (HasZeroAt key members)
zero_decided key members =
    meaning_decided (required key duration_reading) members same_decided 0

pub max_below_delay_decided : (members : Members) → IsDecided (IsMaxBelowDelay members)
max_below_delay_decided members =
    such_decided (required max_delay_key duration_reading) members (λ max.
    such_decided (required delay_key duration_reading) members (λ delay. below_decided max delay))

-- ---- the rules

-- a check that is made by the value
abbrev pub by_value : {D : Type 0} → (D → Check D) → Check D
by_value check = record {
  passes = λ value. (check value).passes value;
  faults = λ value. (check value).faults value;
  passes_or_faults = λ value. (check value).passes_or_faults value;
  one_fault = λ value. (check value).one_fault value;
  never_both = λ value. (check value).never_both value;
}

-- a rule that values of which this holds break
abbrev pub rule_where : {D : Type 0} → (IsBroken : D → Type 0)
    → ((value : D) → IsDecided (IsBroken value)) → BrokenRule → Check D
rule_where IsBroken decided broken =
    by_value (λ value. rule_check (IsBroken value) (decided value) broken)

-- nothing is checked
abbrev pub unchecked : {D : Type 0} → Check D
unchecked = record {
  passes = λ value. Always;
  faults = λ value fault. ⊥;
  passes_or_faults = λ value. inl tt;
  one_fault = λ value f g a b. absurd a;
  never_both = λ value f a b. b;
}

-- the rules of a table with this backoff, in turn; none where it names none
abbrev pub rules_by : Option Backoff → Check Members
rules_by None = unchecked
rules_by (Some backoffs.Fixed) = rule_where LacksDelay lacks_delay_decided jitter_without_delay
rules_by (Some backoffs.Exponential) =
    both (rule_where HasZeroCount zero_count_decided count_zero)
    (both (rule_where (HasZeroAt delay_key) (zero_decided delay_key) delay_zero)
    (both (rule_where (HasZeroAt max_delay_key) (zero_decided max_delay_key) max_delay_zero)
    (rule_where IsMaxBelowDelay max_below_delay_decided max_delay_below_delay)))

-- the rules of a table by its backoff
abbrev pub retry_rules : Check Members
retry_rules = by_value (λ members. rules_by (backoff_in members))
