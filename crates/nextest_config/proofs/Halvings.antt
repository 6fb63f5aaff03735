-- How often a list is halved: the laws of one step, and the bound by the number of binary digits.
use Rattle.std.proofs.Common.{◌≡◌, ℕ, zero, suc, ◌+◌, ◌-◌, ◌/◌, ◌^◌, ◌<◌, ◌≤◌, true, false, ltb, inl, inr, refl, sym, ap, ◌∙◌, pow-suc, arith, rules}
use Rattle.std.proofs.lemmas.Bool.{cases_lt}
use Rattle.std.proofs.lemmas.Bool.Decides.{nat_tests}
use Rattle.nextest_config.specs.Choice.Halvings.{halvings, halvings_within}

-- ---- one step

below : (a b : ℕ) → a < b → ltb a b ≡ true
below a b h = grind (arith, nat_tests)

not_below : (a b : ℕ) → b ≤ a → ltb a b ≡ false
not_below a b h = grind (arith, nat_tests)

within_one : (most n i : ℕ) → n ≤ 1 → halvings_within most n i ≡ 0
unfolding halvings_within
within_one most n i few = search rules

within_first : (most n i : ℕ) → 2 ≤ n → i < n / 2 → halvings_within (suc most) n i ≡ suc (halvings_within most (n / 2) i)
unfolding halvings_within
within_first most n i many first = rw (not_below n 2 many, below i (n / 2) first) refl

within_second : (most n i : ℕ) → 2 ≤ n → n / 2 ≤ i → halvings_within (suc most) n i ≡ suc (halvings_within most (n - n / 2) (i - n / 2))
unfolding halvings_within
within_second most n i many second = rw (not_below n 2 many, not_below i (n / 2) second) refl

-- ---- halved as often as is wanted

Enough : ℕ → ℕ → Type 0
Enough most more = (n i : ℕ) → n ≤ most → n ≤ more → halvings_within most n i ≡ halvings_within more n i

same_within : (most more : ℕ) → Enough most more
unfolding Enough
same_within zero more n i few _ = within_one zero n i (omega arith) ∙ sym (within_one more n i (omega arith))
same_within (suc most) zero n i _ few = within_one (suc most) n i (omega arith) ∙ sym (within_one zero n i (omega arith))
same_within (suc most) (suc more) n i few fewer = elim (cases_lt n 2) [
  | inl one ↦ within_one (suc most) n i (omega arith) ∙ sym (within_one (suc more) n i (omega arith))
  | inr many ↦ elim (cases_lt i (n / 2)) [
    | inl first ↦ within_first most n i many first ∙ ap suc (same_within most more (n / 2) i (omega arith) (omega arith)) ∙ sym (within_first more n i many first)
    | inr second ↦ within_second most n i many second ∙ ap suc (same_within most more (n - n / 2) (i - n / 2) (omega arith) (omega arith)) ∙ sym (within_second more n i many second)
  ]
]

pub halvings_alone : (n i : ℕ) → n ≤ 1 → halvings n i ≡ 0
unfolding halvings
halvings_alone n i few = within_one n n i few

at_most : (n m i : ℕ) → n ≡ suc m → halvings n i ≡ halvings_within (suc m) n i
unfolding halvings
at_most n m i is = ap (λ k. halvings_within k n i) is

within_less : (m n i : ℕ) → n ≤ m → halvings_within m n i ≡ halvings n i
unfolding halvings Enough
within_less m n i less = same_within m n n i less (omega arith)

pub halvings_first : (n i : ℕ) → 2 ≤ n → i < n / 2 → halvings n i ≡ 1 + halvings (n / 2) i
halvings_first n i many first =
    at_most n (n - 1) i (omega arith) ∙ within_first (n - 1) n i many first ∙ ap suc (within_less (n - 1) (n / 2) i (omega arith)) ∙ omega arith

pub halvings_second : (n i : ℕ) → 2 ≤ n → n / 2 ≤ i → halvings n i ≡ 1 + halvings (n - n / 2) (i - n / 2)
halvings_second n i many second =
    at_most n (n - 1) i (omega arith) ∙ within_second (n - 1) n i many second ∙ ap suc (within_less (n - 1) (n - n / 2) (i - n / 2) (omega arith)) ∙ omega arith

-- ---- binary digits

within_digits : (digits n i : ℕ) → n ≤ 2 ^ digits → halvings n i ≤ digits
within_digits zero n i few = let none = halvings_alone n i few in omega arith
within_digits (suc digits) n i few = elim (cases_lt n 2) [
  | inl one ↦ (let none = halvings_alone n i (omega arith) in omega arith)
  | inr many ↦ elim (cases_lt i (n / 2)) [
    | inl first ↦ (let step = halvings_first n i many first in let less = within_digits digits (n / 2) i (omega (arith, pow-suc 2 digits)) in omega arith)
    | inr second ↦ (let step = halvings_second n i many second in let less = within_digits digits (n - n / 2) (i - n / 2) (omega (arith, pow-suc 2 digits)) in omega arith)
  ]
]

pub halvings_digits : (n i digits : ℕ) → n < 2 ^ digits → halvings n i ≤ digits
halvings_digits n i digits few = within_digits digits n i (omega arith)
