-- The setting `priority`: an integer from -100 to 100 (nextest's configuration reference).
use Rattle.std.specs.Prelude.{◌≡◌, ◌≤ℤ◌, ℕ, ℤ, pos, neg_ℤ, List, codes, FitsSigned, ◌⊎◌}
use Rattle.std.specs.Int.{w8}
use Rattle.std.proofs.Common.{refl, sym, ◌∙◌, inl, inr, rules}
use Rattle.toml.specs.Data.{Data, as_integer}
use Rattle.nextest_config_values.specs.Decisions.{both_decided, IsDecided}
use Rattle.nextest_config_values.specs.Once.{HasMeaningOrFault}
use Rattle.nextest_config_values.specs.Read.Fault.{Fault, priority_outside}
use Rattle.nextest_config_values.specs.Read.{broken_by, kind, Reading, wrong_kind, wrong_value}
use Rattle.nextest_config_elements.specs.IntegerLaws.{at_most_decided, fits_decided}

-- the integer is from -100 to 100
abbrev pub IsPriority : ℤ → Type 0
IsPriority number = (neg_ℤ (pos 100) ≤ℤ number) × (number ≤ℤ pos 100)

-- what `priority` takes, as a refusal says it
abbrev pub priority_expected : List ℕ
priority_expected = codes "i8"

priority_fits : (number : ℤ) → IsPriority number → FitsSigned w8 number
priority_fits number h = search rules

-- what is wrong with an integer: it isn't one of 8 bits, or it is one and no priority
abbrev pub PriorityFaults : ℤ → Data → Fault → Type 0
PriorityFaults held value fault =
    (¬ (FitsSigned w8 held) × (fault ≡ wrong_value value priority_expected))
    ⊎ (FitsSigned w8 held × ¬ (IsPriority held)
    × (fault ≡ broken_by (priority_outside held)))

priority_decided : (number : ℤ) → IsDecided (IsPriority number)
priority_decided number = both_decided (at_most_decided (neg_ℤ (pos 100)) number)
    (at_most_decided number (pos 100))

pub one_priority_fault : (held : ℤ) (value : Data) (f g : Fault)
    → PriorityFaults held value f → PriorityFaults held value g → f ≡ g
one_priority_fault held value f g a b = search rules

pub no_priority_fault : (held : ℤ) (value : Data) (f : Fault) → IsPriority held
    → PriorityFaults held value f → ⊥
no_priority_fault held value f h (inl a) = a.0 (priority_fits held h)
no_priority_fault held value f h (inr a) = a.1 h

pub priority_or_fault : (held : ℤ) (value : Data)
    → HasMeaningOrFault (λ priority. (priority ≡ held) × IsPriority held)
    (PriorityFaults held value)
priority_or_fault held value = elim (priority_decided held) [
  | inl is ↦ inl (held, (refl, is))
  | inr not ↦ elim (fits_decided w8 held) [
    | inl fits ↦ inr (broken_by (priority_outside held), inr (fits, not, refl))
    | inr large ↦ inr (wrong_value value priority_expected, inl (large, refl))
  ]
]

-- an integer that is a priority
abbrev pub priority_in : ℤ → Reading Data ℤ
priority_in held = record {
  means = λ value priority. (priority ≡ held) × IsPriority held;
  faults = PriorityFaults held;
  takes_memory = λ value. ⊥;
  law = record {
    meaning_or_fault = priority_or_fault held;
    one_meaning = λ value x y a b. a.0 ∙ sym b.0;
    one_fault = one_priority_fault held;
    never_both = λ value x f a. no_priority_fault held value f a.1;
  };
}

-- the reading of `priority`: an integer (TOML 1.1, "Integer") from -100 to 100
abbrev pub priority_reading : Reading Data ℤ
priority_reading = kind as_integer priority_in (wrong_kind priority_expected)
