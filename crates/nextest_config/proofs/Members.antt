-- The elements of lists: of a mapped list, found by a test, in order, and those that hold something.
use Rattle.std.proofs.Common.{◌≡◌, ◌↔◌, Bool, true, List, [], ◌∷◌, ◌++◌, map, Contains, Ordering, Less, subst, sym, ◌∙◌, inl, inr, ⊎_elim, append_assoc}
use mathlib.Core.Logic.{⊎_map}
use Rattle.std.proofs.lemmas.List.{append-nil, map-id, map_push}
use Rattle.std.proofs.lemmas.List.Elements.{Contains-append_left, Contains-push, Contains-push_cases}
use Rattle.std.proofs.lemmas.List.Folds.{list_any_at}
use Rattle.std.proofs.lemmas.Map.Views.{Contains-from_any}
use Rattle.std.specs.List.Sorted.{IsStrictlySortedBy}
use Rattle.std.specs.Set.{is_member}
use Rattle.nextest_config.proofs.Lists.{all_mapped}
use Rattle.nextest_config.specs.NextestVersion.{HasOneMore}
use Rattle.nextest_config.specs.NextestVersion.SetLaws.{contains_none}

pub pushed : {X : Type 0} (xs : List X) (x : X) → HasOneMore xs x (xs ++ x ∷ [])
pushed xs x y = (Contains-push_cases xs x y, ⊎_elim (Contains-append_left xs (x ∷ []) y) (λ same. subst (Contains (xs ++ x ∷ [])) same (Contains-push xs x)))

-- a test that tells elements apart finds those of a list
module _ {K : Type 0} (eq : K → K → Bool) (itself : (x : K) → eq x x ≡ true) (exact : (x y : K) → eq x y ≡ true → x ≡ y) where
  pub member_iff : (k : K) (xs : List K) → (is_member eq xs k ≡ true) ↔ Contains xs k
  member_iff k xs = (Contains-from_any exact k xs, λ (i, within, is). list_any_at (eq k) xs i k within (subst (λ y. eq k y ≡ true) (sym is) (itself k)))

-- ---- elements in order

pub none_in_order : {X : Type 0} (cmp : X → X → Ordering) → IsStrictlySortedBy cmp []
unfolding IsStrictlySortedBy
none_in_order cmp = tt

-- what is in order by what is seen of it is seen in order
pub seen_in_order : {X Y : Type 0} (cmp : X → X → Ordering) (seen_cmp : Y → Y → Ordering) (seen : X → Y) → ((x y : X) → cmp x y ≡ seen_cmp (seen x) (seen y)) → (xs : List X)
    → IsStrictlySortedBy cmp xs → IsStrictlySortedBy seen_cmp (map seen xs)
unfolding IsStrictlySortedBy
seen_in_order cmp seen_cmp seen same [] h = tt
seen_in_order cmp seen_cmp seen same (x ∷ xs) h =
    (all_mapped (λ y. cmp x y ≡ Less) (λ y. seen_cmp (seen x) y ≡ Less) seen (λ y less. sym (same x y) ∙ less) xs h.0, seen_in_order cmp seen_cmp seen same xs h.1)

pub in_order_by : {X : Type 0} (cmp other : X → X → Ordering) → ((x y : X) → cmp x y ≡ other x y) → (xs : List X) → IsStrictlySortedBy cmp xs → IsStrictlySortedBy other xs
in_order_by {X} cmp other same xs h = subst (IsStrictlySortedBy other) (map-id xs) (seen_in_order cmp other (λ (x : X). x) same xs h)

-- ---- the elements of a list that hold something

-- the elements so far of which this holds
abbrev pub AreThoseOf : {X : Type 0} → (X → Type 0) → List X → List X → Type 0
AreThoseOf {X} Holds so_far those = (x : X) → Contains those x ↔ (Contains so_far x × Holds x)

pub none_of_none : {X : Type 0} (Holds : X → Type 0) → AreThoseOf Holds [] []
none_of_none Holds x = (λ h. absurd (contains_none h), λ h. absurd (contains_none h.0))

pub one_that_holds : {X : Type 0} (Holds : X → Type 0) (so_far before after : List X) (x : X)
    → AreThoseOf Holds so_far before → HasOneMore before x after → Holds x → AreThoseOf Holds (so_far ++ x ∷ []) after
one_that_holds Holds so_far before after x those more holds other =
    let grown = pushed so_far x other in (
      λ h. ⊎_elim (λ there. let (stood, held) = (those other).0 there in (grown.1 (inl stood), held)) (λ same. (grown.1 (inr same), subst Holds same holds)) ((more other).0 h),
      λ (there, held). (more other).1 (⊎_map (λ stood. (those other).1 (stood, held)) (λ same. same) (grown.0 there)),
    )

pub one_that_fails : {X : Type 0} (Holds : X → Type 0) (so_far those : List X) (x : X)
    → AreThoseOf Holds so_far those → (Holds x → ⊥) → AreThoseOf Holds (so_far ++ x ∷ []) those
one_that_fails Holds so_far those x are fails other =
    let grown = pushed so_far x other in (
      λ h. let (stood, held) = (are other).0 h in (grown.1 (inl stood), held),
      λ (there, held). (are other).1 (⊎_elim (λ stood. stood) (λ same. absurd (fails (subst Holds (sym same) held))) (grown.0 there), held),
    )

-- ---- those that hold something, after others, as they are seen

-- each element of a list is among those of which nothing is asked
pub none_after : {X : Type 0} (xs : List X) → AreThoseOf (λ x. Unit {0}) (xs ++ []) xs
none_after xs x = rw (append-nil xs) (λ h. (h, tt), λ h. h.0)

pub seen_holds : {X Y : Type 0} (seen : X → Y) (Holds : Y → Type 0) (base : List Y) (xs : List X) (x : X) (before after : List Y) (y : Y) → AreThoseOf Holds (base ++ map seen xs) before
    → HasOneMore before y after → y ≡ seen x → Holds (seen x) → AreThoseOf Holds (base ++ map seen (xs ++ x ∷ [])) after
seen_holds seen Holds base xs x before after y those more is holds =
    rw (map_push seen xs x) (subst (λ ys. AreThoseOf Holds ys after) (append_assoc base (map seen xs) (seen x ∷ []))
    (one_that_holds Holds (base ++ map seen xs) before after (seen x) those (subst (λ z. HasOneMore before z after) is more) holds))
