-- When a current version is enough, by its numbers.
use Rattle.std.proofs.Common.{◌≡◌, ℕ, ◌<◌, ◌↔◌, ◌⊎◌, Bool, true, not, List, [], ◌∷◌, length, refl, arith, nat_cmp, rules}
use Rattle.std.proofs.lemmas.Bool.{false≢true, ne_eqb}
use Rattle.std.specs.Ordering.{is_lt, ordering_then}
use Rattle.std.specs.declared.cmp.Ordering.{Ordering}
use Rattle.semver.specs.Order.{pre_cmp}
use Rattle.semver.specs.OrderLaws.{pre_cmp-right}
use Rattle.semver.specs.Parse.{Parts}
use Rattle.nextest_config.specs.NextestVersion.{IsBelow, IsEnough, IsEnoughByNumbers, Numbers, plain}

abbrev IsNotLess : Ordering → Type 0
IsNotLess o = ¬ (is_lt o ≡ true)

-- a number, and then the rest
then_rest : (x y : ℕ) (rest : Ordering) (P : Type 0) → IsNotLess rest ↔ P → IsNotLess (ordering_then (nat_cmp x y) rest) ↔ ((y < x) ⊎ ((x ≡ y) × P))
then_rest x y rest P h = search rules

no_pre_release : (pre : List ℕ) → IsNotLess (pre_cmp pre []) ↔ (pre ≡ [])
no_pre_release [] = (λ e. refl, λ e f. false≢true f)
no_pre_release (b ∷ pre) = rw (pre_cmp-right (b ∷ pre) [] (ne_eqb (length (b ∷ pre)) 0 (λ e. absurd (omega (arith, e)))) refl) (λ e. absurd (e refl), λ e. cc e)

pub not_below_by_numbers : (current : Parts) (asked : Numbers) → ¬ IsBelow current (plain asked) ↔ IsEnoughByNumbers current asked
not_below_by_numbers current asked =
    then_rest current.0 asked.0 _ _ (then_rest current.1 asked.1 _ _ (then_rest current.2 asked.2 _ _ (no_pre_release current.3)))

enough_if_not_below : (below : Bool) (P : Type 0) → ¬ (below ≡ true) ↔ P → (not below ≡ true) ↔ P
enough_if_not_below below P h = search rules

pub enough_by_numbers : (current : Parts) (asked : Numbers) → IsEnough current (plain asked) ↔ IsEnoughByNumbers current asked
enough_by_numbers current asked = enough_if_not_below _ _ (not_below_by_numbers current asked)
