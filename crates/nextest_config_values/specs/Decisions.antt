-- Facts that are decided: each holds or doesn't.
use Rattle.std.specs.Prelude.{◌≡◌, ℕ, ◌<◌, ◌≤◌, ◌⊎◌, Bool, true, false, IsTrue, List, [], ◌∷◌, nat_eq}
use Rattle.std.proofs.Common.{inl, inr, refl, sym, arith}
use Rattle.std.proofs.lemmas.Bool.{cases_Bool, cases_lt}
use Rattle.std.specs.Cmp.Lexicographic.{other_text, pointwise, same_text}
use Rattle.std.specs.List.{AllByRecursion}

-- a fact is decided: it holds, or it doesn't
abbrev pub IsDecided : Type 0 → Type 0
IsDecided P = P ⊎ ¬ P

-- something of which a fact holds is found, or the fact holds of nothing
abbrev pub IsFoundOrNone : {X : Type 0} → (X → Type 0) → Type 0
IsFoundOrNone {X} Holds = ((x : X) × Holds x) ⊎ ((x : X) → ¬ Holds x)

not_below : (m n : ℕ) → (m < n) ⊎ (n ≤ m) → IsDecided (m < n)
not_below m n (inl below) = inl below
not_below m n (inr over) = inr (λ below. absurd (omega arith))

pub below_decided : (m n : ℕ) → IsDecided (m < n)
below_decided m n = not_below m n (cases_lt m n)

pub both_decided : {P Q : Type 0} → IsDecided P → IsDecided Q → IsDecided (P × Q)
both_decided (inl p) (inl q) = inl (p, q)
both_decided (inl p) (inr not_q) = inr (λ b. not_q b.1)
both_decided (inr not_p) other = inr (λ b. not_p b.0)

pub not_decided : {P : Type 0} → IsDecided P → IsDecided (¬ P)
not_decided (inl p) = inr (λ not_p. not_p p)
not_decided (inr not_p) = inl not_p

pub all_decided : {X : Type 0} {P : X → Type 0} → ((x : X) → IsDecided (P x)) → (xs : List X)
    → IsDecided (AllByRecursion P xs)
all_decided decided [] = inl tt
all_decided decided (x ∷ xs) = both_decided (decided x) (all_decided decided xs)

pub true_decided : (b : Bool) → IsDecided (IsTrue b)
true_decided true = inl refl
true_decided false = inr (λ holds. cc holds)

pub same_decided : (m n : ℕ) → IsDecided (m ≡ n)
same_decided m n = elim (cases_lt m n) [
  | inl below ↦ inr (λ same. absurd (omega arith))
  | inr over ↦ elim (cases_lt n m) [
    | inl above ↦ inr (λ same. absurd (omega arith))
    | inr under ↦ inl (omega arith)
  ]
]

pub same_text_decided : (text other : List ℕ) → IsDecided (text ≡ other)
same_text_decided text other = elim (cases_Bool (pointwise nat_eq text other)) [
  | inl same ↦ inl (same_text text other (sym same))
  | inr differ ↦ inr (other_text text other (sym differ))
]
