-- What `==` and copies say of values.
use Rattle.std.specs.Prelude.{◌≡◌, ◌↔◌, Bool, IsTrue, Option, Some}

-- values are equal exactly where they are the same, seen through this view
abbrev pub IsEqualityBy : {X Y : Type 0} → (X → Y) → (X → X → Bool) → Type 0
IsEqualityBy {X} view eq = (a b : X) → IsTrue (eq a b) ↔ (view a ≡ view b)

-- values are equal exactly where they are the same
abbrev pub IsEquality : {X : Type 0} → (X → X → Bool) → Type 0
IsEquality = IsEqualityBy (λ x. x)

-- a refusal that tells something is equal exactly to those that tell the same
abbrev pub IsEqualityOfTold : {X Y : Type 0} → (X → Option Y) → (X → X → Bool) → Type 0
IsEqualityOfTold {X} {Y} told eq = (a b : X) (fault : Y) → told a ≡ Some fault
    → IsTrue (eq a b) ↔ (told b ≡ Some fault)

-- a copy is the value that it is made of
abbrev pub IsCopy : {X : Type 0} → (X → X → Type 0) → Type 0
IsCopy {X} is_clone = (value copy : X) → is_clone value copy → copy ≡ value
