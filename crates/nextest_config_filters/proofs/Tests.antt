-- What follows from the answers of tests.
use Rattle.std.proofs.Common.{◌≡◌, ℕ, Bool, true, false, List, [], ◌∷◌, Some, subst, refl, sym, ◌∙◌, inl, inr, eq-eqb, eqb-true}
use Rattle.std.specs.Prelude.{◌==◌, ◌&&◌, if◌then◌else◌}
use Rattle.std.proofs.lemmas.Bool.{cases_Bool}
use Rattle.std.specs.List.{AllByRecursion, list_all}

pub first_true : (a b : Bool) → (a && b) ≡ true → a ≡ true
first_true true b both = refl
first_true false b both = both

pub second_true : (a b : Bool) → (a && b) ≡ true → b ≡ true
second_true true b both = both
second_true false b both = cc both

pub and_false : (a : Bool) → (a && false) ≡ false
and_false true = refl
and_false false = refl

-- what passes as a list passes each for itself
pub all_true : (test : ℕ → Bool) (xs : List ℕ) → list_all test xs ≡ true → AllByRecursion (λ x. test x ≡ true) xs
all_true test [] all = tt
all_true test (x ∷ xs) all =
    (first_true (test x) (list_all test xs) all, all_true test xs (second_true (test x) (list_all test xs) all))

-- two that are different are told apart
pub differs : (a b : ℕ) → (a ≡ b → ⊥) → (a == b) ≡ false
differs a b other = elim (cases_Bool (a == b)) [
  | inl same ↦ absurd (other (eqb-true a b same))
  | inr not_same ↦ not_same
]

-- and two that are told apart are different
pub apart : (a b : ℕ) → (a == b) ≡ false → a ≡ b → ⊥
apart a b other same = let both : true ≡ false = sym (eq-eqb a b same) ∙ other in cc both

-- what holds of either way holds of both, also where the answer counts
module _ {X : Type 0} (P : X → Type 0) where
  pub either : (test : Bool) (x y : X) → P x → P y → P (if test then x else y)
  either true x y one other = one
  either false x y one other = other

  pub by_test : (test : Bool) (x y : X) → (test ≡ true → P x) → (test ≡ false → P y) → P (if test then x else y)
  by_test true x y one other = one refl
  by_test false x y one other = other refl

-- what holds of what is there holds of that by another name
pub as_there : {X : Type 0} (P : X → Type 0) (x y : X) → Some x ≡ Some y → P x → P y
as_there P x y there holds = let same : x ≡ y = cc there in subst P same holds
