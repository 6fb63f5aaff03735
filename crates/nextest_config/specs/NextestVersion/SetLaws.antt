-- Sets that are written in order: an insertion, and the elements of a list of which something
-- holds.
use Rattle.std.proofs.Common.{◌≡◌, ◌↔◌, ◌⊎◌, zero, suc, List, [], ◌∷◌, map, Contains, Ordering, Less, Equal, Greater, refl, subst, sym, ap, ◌∙◌, inl, inr, ⊎_elim, arith}
use mathlib.Core.Logic.{⊎_map}
use Rattle.std.proofs.lemmas.List.{map-id}
use Rattle.std.specs.BTreeSet.{insert_key}
use Rattle.std.specs.Cmp.{IsTotalOrder}
use Rattle.std.specs.List.{AllByRecursion}
use Rattle.std.specs.List.Sorted.{IsStrictlySortedBy}
use Rattle.std.specs.Ordering.{match_ordering, ordering_reverse}
use Rattle.nextest_config_values.specs.Decisions.{IsDecided}
use Rattle.nextest_config.specs.NextestVersion.Experimental.{HasOneMore}

-- ---- elements, and one more

pub contains_first : {X : Type 0} {x y : X} (xs : List X) → x ≡ y → Contains (x ∷ xs) y
contains_first xs same = (0, omega arith, same)

pub contains_later : {X : Type 0} (x : X) {y : X} (xs : List X) → Contains xs y
    → Contains (x ∷ xs) y
contains_later x xs (k, within, is) = (suc k, omega arith, is)

pub contains_cases : {X : Type 0} (x : X) {y : X} (xs : List X) → Contains (x ∷ xs) y
    → (x ≡ y) ⊎ Contains xs y
contains_cases x xs (zero, within, is) = inl is
contains_cases x xs (suc k, within, is) = inr (k, omega arith, is)

pub contains_none : {X : Type 0} {y : X} → Contains [] y → ⊥
contains_none (k, within, is) = omega arith

one_in_front : {X : Type 0} (xs : List X) (x : X) → HasOneMore xs x (x ∷ xs)
one_in_front xs x y =
    (λ h. ⊎_elim inr inl (contains_cases x xs h), ⊎_elim (contains_later x xs) (contains_first xs))

-- an element in front of both lists
after_another : {X : Type 0} (z x : X) (before after : List X) → HasOneMore before x after
    → HasOneMore (z ∷ before) x (z ∷ after)
after_another z x before after more y =
    let still = contains_later z after in (
      λ h. ⊎_elim (λ same. inl (contains_first before same))
          (λ h. ⊎_map (contains_later z before) (λ same. same) ((more y).0 h))
          (contains_cases z after h),
      ⊎_elim (λ h. ⊎_elim (contains_first after) (λ h. still ((more y).1 (inl h)))
          (contains_cases z before h)) (λ same. still ((more y).1 (inr same))),
    )

-- an order on the keys, and what is seen of each key, which is the same at keys that are equal by
-- the order
module _ {K Y : Type 0} (cmp : K → K → Ordering) (seen : K → Y)
    (exact : (x y : K) → cmp x y ≡ Equal → seen x ≡ seen y) (k : K) where
  inserted_by : (order : Ordering) (x : K) (xs : List K) → cmp k x ≡ order
      → HasOneMore (map seen xs) (seen k) (map seen (insert_key cmp xs k))
      → HasOneMore (map seen (x ∷ xs)) (seen k)
      (map seen (match_ordering order (k ∷ x ∷ xs) (x ∷ xs) (x ∷ insert_key cmp xs k)))
  inserted_by Less x xs is more = one_in_front (map seen (x ∷ xs)) (seen k)
  inserted_by Equal x xs is more =
      λ y. (inl, ⊎_elim (λ h. h) (λ same. contains_first (map seen xs) (sym (exact k x is) ∙ same)))
  inserted_by Greater x xs is more =
      after_another (seen x) (seen k) (map seen xs) (map seen (insert_key cmp xs k)) more

  inserted : (ks : List K) → HasOneMore (map seen ks) (seen k) (map seen (insert_key cmp ks k))
  inserted [] = one_in_front [] (seen k)
  inserted (x ∷ xs) = inserted_by (cmp k x) x xs refl (inserted xs)

-- after an insertion, a set has one more of what is seen of its keys, and one more key
pub one_more_seen : {K Y : Type 0} (cmp : K → K → Ordering) (seen : K → Y)
    → ((x y : K) → cmp x y ≡ Equal → seen x ≡ seen y) → (k : K) (before after : List K)
    → after ≡ insert_key cmp before k → HasOneMore (map seen before) (seen k) (map seen after)
one_more_seen cmp seen exact k before after is = rw is (inserted cmp seen exact k before)

pub one_more : {K : Type 0} (cmp : K → K → Ordering) → ((x y : K) → cmp x y ≡ Equal → x ≡ y)
    → (k : K) (before after : List K) → after ≡ insert_key cmp before k → HasOneMore before k after
one_more {K} cmp exact k before after is =
    rw (map-id before, map-id after) at (one_more_seen cmp (λ (x : K). x) exact k before after is)

-- ---- images

pub among_images : {X Y : Type 0} (f : X → Y) (xs : List X) (y : Y)
    → Contains (map f xs) y ↔ ((x : X) × Contains xs x × (f x ≡ y))
among_images f [] y =
    (λ h. absurd (contains_none h), λ (x, none, image). absurd (contains_none none))
among_images f (x ∷ xs) y = (
  λ h. ⊎_elim (λ same. (x, contains_first xs refl, same))
      (λ later. let (k, there, image) = (among_images f xs y).0 later in
      (k, contains_later x xs there, image))
      (contains_cases (f x) (map f xs) h),
  λ (k, there, image). ⊎_elim (λ same. contains_first (map f xs) (ap f same ∙ image))
      (λ later. contains_later (f x) (map f xs) ((among_images f xs y).1 (k, later, image)))
      (contains_cases x xs there),
)

-- ---- an insertion in order

module _ {X : Type 0} (cmp : X → X → Ordering) where
  -- all elements of the list come after this one
  abbrev pub AreAbove : X → List X → Type 0
  AreAbove x = AllByRecursion (λ y. cmp x y ≡ Less)

  above_by : (order : Ordering) (z k x : X) (xs : List X) → cmp z k ≡ Less → AreAbove z (x ∷ xs)
      → AreAbove z (insert_key cmp xs k)
      → AreAbove z (match_ordering order (k ∷ x ∷ xs) (x ∷ xs) (x ∷ insert_key cmp xs k))
  above_by Less z k x xs below above inserted = (below, above)
  above_by Equal z k x xs below above inserted = above
  above_by Greater z k x xs below above inserted = (above.0, inserted)

  above_inserted : (z k : X) (xs : List X) → cmp z k ≡ Less → AreAbove z xs
      → AreAbove z (insert_key cmp xs k)
  above_inserted z k [] below above = (below, tt)
  above_inserted z k (x ∷ xs) below above =
      above_by (cmp k x) z k x xs below above (above_inserted z k xs below above.1)

module _ {X : Type 0} (cmp : X → X → Ordering) (total : IsTotalOrder cmp) where
  above_below : (k x : X) (xs : List X) → cmp k x ≡ Less → AreAbove cmp x xs → AreAbove cmp k xs
  above_below k x [] below above = tt
  above_below k x (y ∷ ys) below above =
      (total.trans k x y below above.0, above_below k x ys below above.1)

  in_order_by : (order : Ordering) (k x : X) (xs : List X) → cmp k x ≡ order
      → IsStrictlySortedBy cmp (x ∷ xs) → IsStrictlySortedBy cmp (insert_key cmp xs k)
      → IsStrictlySortedBy cmp
      (match_ordering order (k ∷ x ∷ xs) (x ∷ xs) (x ∷ insert_key cmp xs k))
  unfolding IsStrictlySortedBy
  in_order_by Less k x xs is sorted inserted =
      ((is, above_below k x xs is sorted.0), sorted)
  in_order_by Equal k x xs is sorted inserted = sorted
  in_order_by Greater k x xs is sorted inserted =
      (above_inserted cmp x k xs (total.antisymm x k ∙ ap ordering_reverse is) sorted.0, inserted)

  inserted_in_order : (k : X) (xs : List X) → IsStrictlySortedBy cmp xs
      → IsStrictlySortedBy cmp (insert_key cmp xs k)
  unfolding IsStrictlySortedBy
  inserted_in_order k [] sorted = (tt, tt)
  inserted_in_order k (x ∷ xs) sorted =
      in_order_by (cmp k x) k x xs refl sorted (inserted_in_order k xs sorted.1)

-- ---- the set of those of which something holds

-- the set has the elements of the list of which this holds, in order
pub record IsSetOf {X : Type 0} (cmp : X → X → Ordering) (Holds : X → Type 0) (xs set : List X)
    : Type 0 where
  pub in_order : IsStrictlySortedBy cmp set
  pub members : (x : X) → Contains set x ↔ (Contains xs x × Holds x)

module _ {X : Type 0} (cmp : X → X → Ordering) (total : IsTotalOrder cmp)
    (exact : (x y : X) → cmp x y ≡ Equal → x ≡ y) (Holds : X → Type 0)
    (decided : (x : X) → IsDecided (Holds x)) where
  set_with : (x : X) (xs set : List X) → IsSetOf cmp Holds xs set → IsDecided (Holds x)
      → (all : List X) × IsSetOf cmp Holds (x ∷ xs) all
  set_with x xs set is (inl holds) =
      let more = one_more cmp exact x set (insert_key cmp set x) refl in (
        insert_key cmp set x,
        record {
          in_order = inserted_in_order cmp total x set is.in_order;
          members = λ y. (
            λ there. ⊎_elim
                (λ stood. let (among, held) = (is.members y).0 stood in
                (contains_later x xs among, held))
                (λ same. (contains_first xs same, subst Holds same holds))
                ((more y).0 there),
            λ (there, held). (more y).1 (⊎_elim inr (λ later. inl ((is.members y).1 (later, held)))
                (contains_cases x xs there)),
          );
        },
      )
  set_with x xs set is (inr fails) = (
    set,
    record {
      in_order = is.in_order;
      members = λ y. (
        λ there. let (among, held) = (is.members y).0 there in (contains_later x xs among, held),
        λ (there, held). ⊎_elim (λ same. absurd (fails (subst Holds (sym same) held)))
            (λ later. (is.members y).1 (later, held)) (contains_cases x xs there),
      );
    },
  )

  pub set_of : (xs : List X) → (set : List X) × IsSetOf cmp Holds xs set
  unfolding IsStrictlySortedBy
  set_of [] = (
    [],
    record {
      in_order = tt;
      members = λ x. (λ none. absurd (contains_none none), λ none. absurd (contains_none none.0));
    },
  )
  set_of (x ∷ xs) = let (set, is) = set_of xs in set_with x xs set is (decided x)
