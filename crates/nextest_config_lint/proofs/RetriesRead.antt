-- What a table of retries says of its backoff, its keys and its rules, key by key and whole.
use Rattle.std.specs.Prelude.{◌≡◌, ◌↔◌, ◌<◌, flat_map, ℕ, Bool, true, false, List, [], ◌∷◌, Option, Some, None, IsSome, nat_eq, option_and_then}
use Rattle.std.proofs.Common.{◌∙◌, ap, inl, inr, nat_cmp, refl, subst, sym}
use Rattle.std.proofs.lemmas.Bool.{cases_Bool}
use Rattle.std.proofs.lemmas.Option.{same_Some}
use Rattle.std.proofs.lemmas.Slice.Eq.{bytes_eq-Decides}
use Rattle.std.specs.Cmp.Lexicographic.{pointwise, slice_cmp}
use Rattle.std.specs.List.{AllByRecursion}
use Rattle.toml.specs.Data.{as_str, Data, get_member, member, Members, no_members}
use Rattle.nextest_config_values.specs.Duration.{duration_reading}
use Rattle.nextest_config_values.specs.Read.Fault.{Fault}
use Rattle.nextest_config_values.specs.Read.{bool_reading, Check, either, made_of, optional, or_default, Reading, required, u32_reading, value_of, word_reading}
use Rattle.toml_spans.specs.Step.{PathStep}
use Rattle.nextest_config_elements.specs.Fields.{KeyRule, nothing}
use Rattle.nextest_config_elements.specs.declared.field.FaultSeverity.{FaultSeverity}
use Rattle.nextest_config_elements.specs.declared.field.FaultSeverity.TheVariants.{Error}
use Rattle.nextest_config_elements.specs.RetryPolicy.{backoff_key, backoff_reads_back, backoff_word, backoffs_in_order, count_key, delay_key, exponential_rules, IsJitterAlone, jitter_key, max_delay_key}
use Rattle.nextest_config_elements.specs.RetryRules.{backoff_in, LacksDelay, rules_by}
use Rattle.nextest_config_elements.specs.UnknownKeys.{IsOneOf}
use Rattle.nextest_config_elements.specs.UnknownKeysLaws.{found_at}
use Rattle.nextest_config_elements.specs.declared.retry_policy.Backoff.{Backoff}
use Rattle.nextest_config_elements.specs.declared.retry_policy.Backoff.TheVariants.{Exponential}
use Rattle.nextest_config_lint.specs.Settings.{is_known, names_of, of_field, of_name, SettingView}

-- what is judged of a key, whose value has nothing in it
abbrev pub of_plain : KeyRule → List PathStep → Members → List SettingView
of_plain rule = of_field Error (rule, nothing)

-- the keys of a table that are refused
abbrev pub refused_in : FaultSeverity → List PathStep → List (List ℕ) → List (List ℕ) → List (List ℕ) → List SettingView
refused_in severity path expected known = flat_map (of_name severity expected known path)

-- the reading of `backoff`
abbrev pub backoff_reading : Reading Data Backoff
backoff_reading = word_reading backoffs_in_order backoff_word backoff_reads_back

-- a check finds nothing exactly where a value passes
pub checked_none : {D : Type 0} (check : Check D) (value : D) → ((fault : Fault) → check.faults value fault → ⊥) ↔ check.passes value
checked_none check value = (
  λ none. elim (check.passes_or_faults value) [
    | inl passes ↦ passes
    | inr (fault, wrong) ↦ absurd (none fault wrong)
  ],
  λ passes fault wrong. check.never_both value fault passes wrong,
)

-- ---- names

-- what holds of each name of a table holds of each text that has a value
pub of_names : (P : List ℕ → Type 0) (held : Members) → AllByRecursion P (names_of held) → (text : List ℕ) → IsSome (get_member text held) → P text
of_names P no_members all text some = cc some
of_names P (member name value rest) all text some =
    found_at (slice_cmp nat_cmp text name) text name value (get_member text rest) (P text) refl (λ same. subst P (sym same) all.0) (of_names P rest all.1 text) some

pub known_one : (known : List (List ℕ)) (name : List ℕ) → is_known known name ≡ true → IsOneOf known name
known_one [] name there = cc there
known_one (word ∷ known) name there = elim (cases_Bool (pointwise nat_eq word name)) [
  | inl same ↦ inl (sym ((bytes_eq-Decides word name).0 same))
  | inr other ↦ inr (known_one known name (rw other at there))
]

pub one_known : (known : List (List ℕ)) (name : List ℕ) → IsOneOf known name → is_known known name ≡ true
one_known [] name one = absurd one
one_known (word ∷ known) name one = elim (cases_Bool (pointwise nat_eq word name)) [
  | inl same ↦ rw same refl
  | inr other ↦ elim one [
    | inl here ↦ absurd (cc ((bytes_eq-Decides word name).1 (sym here), other))
    | inr later ↦ rw other (one_known known name later)
  ]
]

-- ---- the backoff

backoff_text : (text : Option (List ℕ)) (backoff : Backoff) → either {A = Backoff → Type 0} text (λ held kind. backoff_word kind ≡ held) (λ kind. ⊥) backoff
    → option_and_then (value_of backoff_word backoffs_in_order) text ≡ Some backoff
backoff_text (Some text) backoff is = ap (value_of backoff_word backoffs_in_order) (sym is) ∙ backoff_reads_back backoff
backoff_text None backoff is = absurd is

backoff_found : (found : Option Data) (backoff : Backoff) → either found (λ value. backoff_reading.means value) (λ kind. ⊥) backoff
    → option_and_then (value_of backoff_word backoffs_in_order) (option_and_then as_str found) ≡ Some backoff
backoff_found None backoff means = absurd means
backoff_found (Some value) backoff means = backoff_text (as_str value) backoff means

-- a backoff that is read is the one that the table names
pub backoff_is : (held : Members) (backoff : Backoff) → (required backoff_key backoff_reading).means held backoff
    → backoff_in held ≡ Some backoff
backoff_is held backoff means = backoff_found (get_member backoff_key held) backoff means

-- ---- the rules

module _ (held : Members) where
  -- that of a fixed backoff
  pub fixed_rules : (delay : ℕ) (jitter : Bool) → (or_default delay_key 0 duration_reading).means held delay → (or_default jitter_key false bool_reading).means held jitter
      → (LacksDelay held → ⊥) ↔ (IsJitterAlone delay jitter → ⊥)
  fixed_rules delay jitter delay_there jitter_there = (
    λ kept (varies, none). kept (subst (λ (on : Bool). (or_default jitter_key false bool_reading).means held on) varies jitter_there, subst (λ (n : ℕ). (or_default delay_key 0 duration_reading).means held n) none delay_there),
    λ kept (varies, none). kept ((or_default jitter_key false bool_reading).law.one_meaning held jitter true jitter_there varies, (or_default delay_key 0 duration_reading).law.one_meaning held delay 0 delay_there none),
  )

  max_there : (found : Option Data) (given : Option ℕ) (max : ℕ) → either found (λ value. (made_of Some duration_reading).means value) (λ x. x ≡ None) given
      → either found (λ value. duration_reading.means value) (λ x. ⊥) max → given ≡ Some max
  max_there None given max of_given of_max = absurd of_max
  max_there (Some value) given max (x, meant, is) of_max = is ∙ ap Some (duration_reading.law.one_meaning value x max meant of_max)

  max_back : (found : Option Data) (given : Option ℕ) (max : ℕ) → either found (λ value. (made_of Some duration_reading).means value) (λ x. x ≡ None) given
      → given ≡ Some max → either found (λ value. duration_reading.means value) (λ x. ⊥) max
  max_back None given max of_given is_max = cc (of_given, is_max)
  max_back (Some value) given max (x, meant, is) is_max = subst (λ (n : ℕ). duration_reading.means value n) (same_Some x max (sym is ∙ is_max)) meant

  -- those of an exponential one
  pub exponential_kept : (count delay : ℕ) (max_delay : Option ℕ) → (required count_key u32_reading).means held count → (required delay_key duration_reading).means held delay
      → (optional max_delay_key duration_reading).means held max_delay → (rules_by (Some Exponential)).passes held ↔ (exponential_rules count delay max_delay).passes held
  exponential_kept count delay max_delay count_there delay_there max_delay_there = (
    λ (some, (delayed, (longer, above))). (
      λ none. some (subst (λ (n : ℕ). (required count_key u32_reading).means held n) none count_there),
      (
        λ none. delayed (subst (λ (n : ℕ). (required delay_key duration_reading).means held n) none delay_there),
        (
          λ none. longer (max_back (get_member max_delay_key held) max_delay 0 max_delay_there none),
          λ (max, is, below). above (max, max_back (get_member max_delay_key held) max_delay max max_delay_there is, (delay, delay_there, below)),
        ),
      ),
    ),
    λ (some, (delayed, (longer, above))). (
      λ none. some ((required count_key u32_reading).law.one_meaning held count 0 count_there none),
      (
        λ none. delayed ((required delay_key duration_reading).law.one_meaning held delay 0 delay_there none),
        (
          λ none. longer (max_there (get_member max_delay_key held) max_delay 0 max_delay_there none),
          λ (max, there, (first, first_there, below)). above (
            max,
            max_there (get_member max_delay_key held) max_delay max max_delay_there there,
            subst (λ (n : ℕ). max < n) ((required delay_key duration_reading).law.one_meaning held first delay first_there delay_there) below,
          ),
        ),
      ),
    ),
  )

  -- a broken rule of a fixed backoff is a fault of the table
  pub fixed_broken : (delay : ℕ) (jitter : Bool) → (or_default delay_key 0 duration_reading).means held delay → (or_default jitter_key false bool_reading).means held jitter
      → IsJitterAlone delay jitter → LacksDelay held
  fixed_broken delay jitter delay_there jitter_there (varies, none) =
      (subst (λ (on : Bool). (or_default jitter_key false bool_reading).means held on) varies jitter_there, subst (λ (n : ℕ). (or_default delay_key 0 duration_reading).means held n) none delay_there)

  -- and so is one of an exponential backoff
  pub exponential_broken : (count delay : ℕ) (max_delay : Option ℕ) → (required count_key u32_reading).means held count → (required delay_key duration_reading).means held delay
      → (optional max_delay_key duration_reading).means held max_delay → (fault : Fault) → (exponential_rules count delay max_delay).faults held fault → (rules_by (Some Exponential)).faults held fault
  exponential_broken count delay max_delay count_there delay_there max_delay_there fault wrong =
      let some_kept = λ (n : count ≡ 0 → ⊥) (none : (required count_key u32_reading).means held 0). n ((required count_key u32_reading).law.one_meaning held count 0 count_there none) in
      let delay_kept = λ (n : delay ≡ 0 → ⊥) (none : (required delay_key duration_reading).means held 0). n ((required delay_key duration_reading).law.one_meaning held delay 0 delay_there none) in
      let max_kept = λ (n : max_delay ≡ Some 0 → ⊥) (none : (required max_delay_key duration_reading).means held 0). n (max_there (get_member max_delay_key held) max_delay 0 max_delay_there none) in
      elim wrong [
        | inl (none, is) ↦ inl (subst (λ (n : ℕ). (required count_key u32_reading).means held n) none count_there, is)
        | inr (some, inl (none, is)) ↦ inr (some_kept some, inl (subst (λ (n : ℕ). (required delay_key duration_reading).means held n) none delay_there, is))
        | inr (some, inr (delayed, inl (none, is))) ↦ inr (some_kept some, inr (delay_kept delayed, inl (max_back (get_member max_delay_key held) max_delay 0 max_delay_there none, is)))
        | inr (some, inr (delayed, inr (longer, ((max, given, below), is)))) ↦ inr (
          some_kept some,
          inr (delay_kept delayed, inr (max_kept longer, ((max, max_back (get_member max_delay_key held) max_delay max max_delay_there given, (delay, delay_there, below)), is))),
        )
      ]
