-- Two answers that are given together or not at all.
use Rattle.std.proofs.Common.{◌≡◌, Bool, true, false, cond, Option, Some, None, option_and_then, option_map, refl, rules}

-- neither is given, or both are, and this holds of them
pub data Alike {A B : Type 0} (P : A → B → Type 0) (o : Option A) (p : Option B) : Type 0 where
  neither : o ≡ None → p ≡ None → Alike P o p
  either : (x : A) (y : B) → o ≡ Some x → p ≡ Some y → P x y → Alike P o p

module _ {A B : Type 0} {P : A → B → Type 0} {o : Option A} {p : Option B} where
  -- under functions
  pub alike_map : {C D : Type 0} {Q : C → D → Type 0} (f : A → C) (g : B → D) → Alike P o p
      → ((x : A) (y : B) → o ≡ Some x → p ≡ Some y → P x y → Q (f x) (g y)) → Alike Q (option_map f o) (option_map g p)
  alike_map f g (neither none none_too) on = neither (rw none refl) (rw none_too refl)
  alike_map f g (either x y is is_too holds) on = either (f x) (g y) (rw is refl) (rw is_too refl) (on x y is is_too holds)

  -- and where more is asked of both
  pub alike_then : {C D : Type 0} {Q : C → D → Type 0} (f : A → Option C) (g : B → Option D) → Alike P o p
      → ((x : A) (y : B) → o ≡ Some x → p ≡ Some y → P x y → Alike Q (f x) (g y)) → Alike Q (option_and_then f o) (option_and_then g p)
  alike_then f g (neither none none_too) on = neither (rw none refl) (rw none_too refl)
  alike_then f g (either x y is is_too holds) on = rw (is, is_too) (on x y is is_too holds)

  -- what holds of both where the first is given
  pub alike_first : Alike P o p → (x : A) → o ≡ Some x → (y : B) × (p ≡ Some y) × P x y
  alike_first h0 x is = search rules

  -- and where the first isn't
  pub alike_none : Alike P o p → o ≡ None → p ≡ None
  alike_none h0 is = search rules

-- one of two on both sides, by one test
pub alike_if : {A B : Type 0} {P : A → B → Type 0} (b : Bool) (o o' : Option A) (p p' : Option B)
    → (b ≡ true → Alike P o p) → (b ≡ false → Alike P o' p') → Alike P (cond b o o') (cond b p p')
alike_if true o o' p p' held failed = held refl
alike_if false o o' p p' held failed = failed refl

-- the same answer, where more is asked of it on both sides
pub alike_same : {X A B : Type 0} {P : A → B → Type 0} (o : Option X) (f : X → Option A) (g : X → Option B)
    → ((x : X) → o ≡ Some x → Alike P (f x) (g x)) → Alike P (option_and_then f o) (option_and_then g o)
alike_same None f g on = neither refl refl
alike_same (Some x) f g on = on x refl

-- and where it is taken under functions
pub alike_same_map : {X A B : Type 0} {P : A → B → Type 0} (o : Option X) (f : X → A) (g : X → B)
    → ((x : X) → o ≡ Some x → P (f x) (g x)) → Alike P (option_map f o) (option_map g o)
alike_same_map None f g on = neither refl refl
alike_same_map (Some x) f g on = either (f x) (g x) refl refl (on x refl)

-- beside an answer, what is made of it
pub alike_made : {A X : Type 0} {P : A → X → Type 0} (o : Option X) (f : X → A) → ((x : X) → o ≡ Some x → P (f x) x) → Alike P (option_map f o) o
alike_made None f on = neither refl refl
alike_made (Some x) f on = either (f x) x refl refl (on x refl)
