-- What holds of each element, by recursion on the list.
use Rattle.std.proofs.Common.{◌≡◌, ◌↔◌, ℕ, zero, suc, ◌+◌, ◌<◌, Bool, true, false, IsTrue, List, [], ◌∷◌, ◌++◌, length, get_or, take, drop, refl, sym, ap, subst, arith}
use Rattle.std.proofs.lemmas.List.{take_more}
use Rattle.std.proofs.lemmas.List.Elements.{All-from_all_within, recursion_from_All}
use Rattle.std.specs.Bool.{MatchBool}
use Rattle.std.specs.List.{AllByRecursion, AllWithin, HoldsAt}

pub all_left : {X : Type 0} (P : X → Type 0) (xs ys : List X) → AllByRecursion P (xs ++ ys) → AllByRecursion P xs
all_left P [] ys h = tt
all_left P (x ∷ xs) ys h = (h.0, all_left P xs ys h.1)

pub all_right : {X : Type 0} (P : X → Type 0) (xs ys : List X) → AllByRecursion P (xs ++ ys) → AllByRecursion P ys
all_right P [] ys h = h
all_right P (x ∷ xs) ys h = all_right P xs ys h.1

pub all_joined : {X : Type 0} (P : X → Type 0) (xs ys : List X) → AllByRecursion P xs → AllByRecursion P ys → AllByRecursion P (xs ++ ys)
all_joined P [] ys h k = k
all_joined P (x ∷ xs) ys h k = (h.0, all_joined P xs ys h.1 k)

pub all_weaker : {X : Type 0} (P Q : X → Type 0) → ((x : X) → P x → Q x) → (xs : List X) → AllByRecursion P xs → AllByRecursion Q xs
all_weaker P Q f [] h = tt
all_weaker P Q f (x ∷ xs) h = (f x h.0, all_weaker P Q f xs h.1)

pub all_middle : {X : Type 0} (P : X → Type 0) (xs : List X) (x : X) (ys : List X) → AllByRecursion P (xs ++ (x ∷ ys)) → P x
all_middle P xs x ys h = (all_right P xs (x ∷ ys) h).0

pub all_always : {X : Type 0} {P : X → Type 0} → ((x : X) → P x) → (xs : List X) → AllByRecursion P xs
all_always f [] = tt
all_always f (x ∷ xs) = (f x, all_always f xs)

pub all_both : {X : Type 0} (P Q : X → Type 0) (xs : List X) → AllByRecursion P xs → AllByRecursion Q xs → AllByRecursion (λ x. P x × Q x) xs
all_both P Q [] h k = tt
all_both P Q (x ∷ xs) h k = ((h.0, k.0), all_both P Q xs h.1 k.1)

-- what holds of the front and of the next element holds of one more
pub all_more : {X : Type 0} (P : X → Type 0) (xs : List X) (i : ℕ) (x : X) → i < length xs → x ≡ get_or xs i x → AllByRecursion P (take i xs) → P x → AllByRecursion P (take (i + 1) xs)
all_more P xs i x within here h p = rw (take_more xs i x within, ← here) (all_joined P (take i xs) (x ∷ []) h (p, tt))

-- the answer of `all`, said by recursion
pub decided_all : {X : Type 0} (P Q : X → Type 0) (xs : List X) (r : Bool) → ((x : X) → P x → Q x → ⊥)
    → MatchBool r (AllWithin P xs 0 (length xs)) ((k : ℕ) × (k < length xs) × HoldsAt Q xs k) → IsTrue r ↔ AllByRecursion P xs
decided_all P Q xs true apart h = (λ e. recursion_from_All P xs (All-from_all_within P xs h), λ a. refl)
decided_all {X} P Q xs false apart h =
    (λ e. cc e, λ a. absurd (apart_somewhere xs a h.0 h.1 h.2))
  where
    apart_somewhere : (xs : List X) → AllByRecursion P xs → (k : ℕ) → k < length xs → HoldsAt Q xs k → ⊥
    apart_somewhere [] a k within h = absurd (omega arith)
    apart_somewhere (x ∷ xs) a zero within h = apart x a.0 (h x)
    apart_somewhere (x ∷ xs) a (suc k) within h = apart_somewhere xs a.1 k (omega arith) h

-- of two elements, each with none like it after it in the same list, both are the last
pub one_last : {X : Type 0} (P Q : X → Type 0) (x y : X) (b c a d : List X) → (P y → ⊥) → (Q x → ⊥) → b ++ (x ∷ a) ≡ c ++ (y ∷ d) → AllByRecursion P a → AllByRecursion Q d → x ≡ y
one_last P Q x y [] [] a d p q same h k = cc same
one_last P Q x y [] (z ∷ c) a d p q same h k = absurd (p (all_middle P c y d (subst (AllByRecursion P) (ap (drop 1) same) h)))
one_last P Q x y (z ∷ b) [] a d p q same h k = absurd (q (all_middle Q b x a (subst (AllByRecursion Q) (ap (drop 1) (sym same)) k)))
one_last P Q x y (z ∷ b) (w ∷ c) a d p q same h k = one_last P Q x y b c a d p q (ap (drop 1) same) h k
