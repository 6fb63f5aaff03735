use Rattle.std.proofs.Common.{◌≡◌, ℕ, List, None, refl, sym, inl, inr}
use Rattle.std.proofs.lemmas.Bool.{cases_Bool}
use Rattle.std.specs.Cmp.Lexicographic.{pointwise, same_text}
use Rattle.std.specs.Prelude.{◌≢◌, nat_eq}
use Rattle.nextest_config_values.specs.Read.{value_of}
use Rattle.nextest_config_elements.specs.RetryPolicy.{backoff_word, backoffs_in_order}
use Rattle.nextest_config_elements.specs.declared.retry_policy.Backoff.TheVariants.{Exponential, Fixed}
use Rattle.nextest_config_elements.proofs.retry_policy.Backoff.of_table.Goals as goal

-- a text that is no word of a backoff
no_word : (text : List ℕ) → text ≢ backoff_word Fixed → text ≢ backoff_word Exponential → value_of backoff_word backoffs_in_order text ≡ None
no_word text not_fixed not_exponential = elim (cases_Bool (pointwise nat_eq (backoff_word Fixed) text)) [
  | inl same ↦ absurd (not_fixed (sym (same_text (backoff_word Fixed) text (sym same))))
  | inr other ↦ elim (cases_Bool (pointwise nat_eq (backoff_word Exponential) text)) [
    | inl same ↦ absurd (not_exponential (sym (same_text (backoff_word Exponential) text (sym same))))
    | inr neither ↦ rw (other, neither) refl
  ]
]

pub returns-in_default : goal.returns-in_default
returns-in_default c = rw (sym c.in_ok-value.ensures, sym c.in_ok-as_str.ensures) (sym (no_word c.in_ok-as_str.field-0.now c.in_default.not-fixed c.in_default.not-exponential))
