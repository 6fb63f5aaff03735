-- The setting `fail-fast`: a boolean, or a table with a limit and a mode.
use Rattle.std.specs.Prelude.{◌≡◌, ◌≢◌, ℕ, ℤ, pos, ◌≤ℤ◌, ◌<ℤ◌, List, [], ◌∷◌, codes, FitsSigned, ◌⊎◌, Option, Some}
use Rattle.std.proofs.Common.{refl, sym, ap, ◌∙◌, inl, inr, subst, rules}
use Rattle.std.specs.Int.{w64}
use Rattle.std.proofs.lemmas.Int.{by_lt_z}
use Rattle.toml.specs.Data.{Data, Members, as_bool, as_integer, as_str}
use Rattle.nextest_config_values.specs.Decisions.{IsDecided, same_text_decided}
use Rattle.nextest_config_values.specs.Once.{HasMeaningOrFault}
use Rattle.nextest_config_values.specs.Read.Plain.{count_decided}
use Rattle.nextest_config_values.specs.Read.{in_range, IsCount, kind, made_of, only, or_default, Reading, required, then, value_of, word_reading, wrong_kind, wrong_value}
use Rattle.nextest_config_elements.specs.Fields.{allowed_or, default_text, Fields, needed, no_fields, plain}
use Rattle.nextest_config_elements.specs.FromTable.{set_by_table}
use Rattle.nextest_config_elements.specs.IntegerLaws.{fits_decided, not_both}
use Rattle.nextest_config_elements.specs.MaxFail.Limit.{fail_fast_limit, mode_word}
use Rattle.nextest_config_elements.specs.MaxFail.NumberText.{IsNumberText}
use Rattle.nextest_config_elements.specs.MaxFail.NumberTextLaws.{number_or_none, one_number}
use Rattle.nextest_config_elements.specs.declared.field.FaultSeverity.TheVariants.{Error}
use Rattle.nextest_config_elements.specs.declared.field.Shape.TheVariants as shapes
use Rattle.nextest_config_elements.specs.declared.max_fail.MaxFail.{MaxFail}
use Rattle.nextest_config_elements.specs.declared.max_fail.MaxFail.TheVariants as limits
use Rattle.nextest_config_elements.specs.declared.max_fail.fail_fast.MaxFailCount.{MaxFailCount}
use Rattle.nextest_config_elements.specs.declared.max_fail.fail_fast.MaxFailCount.TheVariants.{Count, All}
use Rattle.nextest_config_elements.specs.declared.max_fail.TerminateMode.{TerminateMode}
use Rattle.nextest_config_elements.specs.declared.max_fail.TerminateMode.TheVariants.{Wait, Immediate}

-- the key of how many failures a run may have
abbrev pub max_fail_key : List ℕ
max_fail_key = codes "max-fail"

-- the key of how running tests are treated once the limit is reached
abbrev pub terminate_key : List ℕ
terminate_key = codes "terminate"

-- what `fail-fast` takes, as a refusal says it
abbrev pub fail_fast_expected : List ℕ
fail_fast_expected = codes "a boolean or { max-fail = ... }"

-- what `max-fail` takes, as a refusal says it
abbrev pub max_fail_expected : List ℕ
max_fail_expected = codes "a positive integer or the string \"all\""

-- ---- `max-fail`

-- the text writes this integer of 64 bits
abbrev pub HasInteger : List ℕ → ℤ → Type 0
HasInteger held number = IsNumberText held number × FitsSigned w64 number

-- what is expected in place of a text: by a positive integer, by another one, and by no integer
abbrev pub IsExpected : List ℕ → List ℕ → Type 0
IsExpected held expected =
    ((number : ℤ) × HasInteger held number × (pos 0 <ℤ number)
    × (expected ≡ codes "the string \"all\" (numbers must be specified without quotes)"))
    ⊎ (((number : ℤ) × HasInteger held number × (number ≤ℤ pos 0)
    × (expected ≡ codes "the string \"all\" (numbers must be positive and without quotes)"))
    ⊎ (((number : ℤ) → ¬ (HasInteger held number))
    × (expected ≡ codes "the string \"all\" or a positive integer")))

one_sign : (held : List ℕ) (m n : ℤ) → HasInteger held m → HasInteger held n → pos 0 <ℤ m
    → n ≤ℤ pos 0 → ⊥
one_sign held m n h k a b =
    not_both (pos 0) n (subst (λ x. pos 0 <ℤ x) (one_number held m n h.0 k.0) a) b

pub one_expected : (held e f : List ℕ) → IsExpected held e → IsExpected held f → e ≡ f
one_expected held e f a b = search (rules, one_sign)

expected_by : (held : List ℕ) (number : ℤ) → HasInteger held number
    → (expected : List ℕ) × IsExpected held expected
expected_by held number has = by_lt_z (pos 0) number (λ positive. (
  codes "the string \"all\" (numbers must be specified without quotes)",
  inl (number, has, positive, refl),
)) (λ other. (
  codes "the string \"all\" (numbers must be positive and without quotes)",
  inr (inl (number, has, other, refl)),
))

expected_without : (held : List ℕ) → ((number : ℤ) → ¬ (HasInteger held number))
    → (expected : List ℕ) × IsExpected held expected
expected_without held none =
    (codes "the string \"all\" or a positive integer", inr (inr (none, refl)))

expected_fitting : (held : List ℕ) (number : ℤ) → IsNumberText held number
    → IsDecided (FitsSigned w64 number) → (expected : List ℕ) × IsExpected held expected
expected_fitting held number is (inl fits) = expected_by held number (is, fits)
expected_fitting held number is (inr large) = expected_without held
    (λ other has. large (subst (FitsSigned w64) (one_number held other number has.0 is) has.1))

some_expected : (held : List ℕ) → (expected : List ℕ) × IsExpected held expected
some_expected held = elim (number_or_none held) [
  | inl (number, is) ↦ expected_fitting held number is (fits_decided w64 number)
  | inr none ↦ expected_without held (λ number has. none number has.0)
]

pub max_fail_or_fault : (held : List ℕ) (value : Data)
    → HasMeaningOrFault (λ count. (held ≡ codes "all") × (count ≡ All))
    (λ fault. (held ≢ codes "all") × (expected : List ℕ) × IsExpected held expected
    × (fault ≡ wrong_value value expected))
max_fail_or_fault held value = elim (same_text_decided held (codes "all")) [
  | inl all ↦ inl (All, (all, refl))
  | inr other ↦ let told = some_expected held in
      inr (wrong_value value told.0, (other, told.0, told.1, refl))
]

-- the reading of `max-fail` by a text that is held: it is `all`, in these letters
abbrev pub max_fail_in : List ℕ → Reading Data MaxFailCount
max_fail_in held = record {
  means = λ value count. (held ≡ codes "all") × (count ≡ All);
  faults = λ value fault. (held ≢ codes "all") × (expected : List ℕ)
      × IsExpected held expected × (fault ≡ wrong_value value expected);
  takes_memory = λ value. ⊥;
  law = record {
    meaning_or_fault = max_fail_or_fault held;
    one_meaning = λ value x y a b. a.1 ∙ sym b.1;
    one_fault = λ value f g a b. a.3
        ∙ ap (wrong_value value) (one_expected held a.1 b.1 a.2 b.2) ∙ sym b.3;
    never_both = λ value x f a b. b.0 a.0;
  };
}

-- the reading of `max-fail`: an integer that is a count, or the text `all`
abbrev pub max_fail_reading : Reading Data MaxFailCount
max_fail_reading =
    kind as_integer
    (λ number. made_of Count (in_range IsCount count_decided max_fail_expected number))
    (kind as_str max_fail_in (wrong_kind max_fail_expected))

-- ---- `terminate`

pub mode_reads_back : (mode : TerminateMode)
    → value_of mode_word (Wait ∷ Immediate ∷ []) (mode_word mode) ≡ Some mode
mode_reads_back mode = search rules

-- the reading of `terminate`: the word of a mode
abbrev pub terminate_reading : Reading Data TerminateMode
terminate_reading = word_reading (Wait ∷ Immediate ∷ []) mode_word mode_reads_back

-- ---- the setting

-- the limit of this count and this mode
abbrev pub limit_of : MaxFailCount → TerminateMode → MaxFail
limit_of (Count number) mode = limits.Count number mode
limit_of All mode = limits.All

-- the table `fail-fast` has a count, and may have a mode; other keys don't count
abbrev pub fail_fast_table : Reading Members MaxFail
fail_fast_table =
    then (required max_fail_key max_fail_reading) (λ count.
    made_of (limit_of count) (or_default terminate_key Wait terminate_reading))

-- the fields of the table `fail-fast`
abbrev pub fail_fast_fields : Fields
fail_fast_fields =
    plain (needed max_fail_key shapes.MaxFail Error)
    (plain (allowed_or terminate_key shapes.TerminateMode Error (default_text (codes "wait")))
    no_fields)

-- the reading of `fail-fast`: a boolean, or a table, either of which sets a limit (TOML 1.1,
-- "Boolean" and "Table")
abbrev pub fail_fast_reading : Reading Data (Option MaxFail)
fail_fast_reading =
    kind as_bool (λ truth. only (Some (fail_fast_limit truth)))
    (set_by_table fail_fast_table fail_fast_expected)
