-- What a value means, and whether something meant is such: each is decided, since a value means
-- one thing or has a fault.
use Rattle.std.specs.Prelude.{◌≡◌, Bool, true, false}
use Rattle.std.proofs.Common.{inl, inr, refl, subst}
use Rattle.nextest_config_values.specs.Decisions.{IsDecided}
use Rattle.nextest_config_values.specs.Once.{HasMeaningOrFault}
use Rattle.nextest_config_values.specs.Read.{Reading}

module _ {D X : Type 0} (reading : Reading D X) (value : D) where
  module _ {Holds : X → Type 0} (decided : (x : X) → IsDecided (Holds x)) where
    -- something is meant of which this holds
    abbrev IsMeantSuch : Type 0
    IsMeantSuch = (x : X) × reading.means value x × Holds x

    by_meaning : (x : X) → reading.means value x → IsDecided (Holds x) → IsDecided IsMeantSuch
    by_meaning x meant (inl holds) = inl (x, meant, holds)
    by_meaning x meant (inr not_so) = inr (λ such.
        not_so (subst Holds (reading.law.one_meaning value such.0 x such.1 meant) such.2))

    by_law : HasMeaningOrFault (reading.means value) (reading.faults value) → IsDecided IsMeantSuch
    by_law (inl (x, meant)) = by_meaning x meant (decided x)
    by_law (inr (fault, wrong)) =
        inr (λ such. reading.law.never_both value such.0 fault such.1 wrong)

    pub such_decided : IsDecided ((x : X) × reading.means value x × Holds x)
    such_decided = by_law (reading.law.meaning_or_fault value)

  pub meaning_decided : ((x y : X) → IsDecided (x ≡ y)) → (x : X)
      → IsDecided (reading.means value x)
  meaning_decided decided x = elim (such_decided (λ y. decided y x)) [
    | inl (y, meant, same) ↦ inl (subst (reading.means value) same meant)
    | inr not_so ↦ inr (λ meant. not_so (x, meant, refl))
  ]

pub same_truth_decided : (a b : Bool) → IsDecided (a ≡ b)
same_truth_decided true true = inl refl
same_truth_decided true false = inr (λ same. cc same)
same_truth_decided false true = inr (λ same. cc same)
same_truth_decided false false = inl refl
