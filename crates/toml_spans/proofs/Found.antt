-- What holds of a result, where there is one.
use Rattle.std.proofs.Common.{◌≡◌, Bool, true, false, cond, Option, Some, None, option_and_then, option_map, refl, subst, rules}
use Rattle.std.proofs.lemmas.Option.{none-some, same_Some}

-- of what the result is, where there is one
pub record Found {A : Type 0} (o : Option A) (Q : A → Type 0) : Type 0 where
  pub each : (x : A) → o ≡ Some x → Q x

module _ {A : Type 0} {Q : A → Type 0} where
  -- there is none
  pub found_none : Found None Q
  found_none = record { each = λ x is. absurd (none-some x is) }

  -- there is one
  pub found_some : (x : A) → Q x → Found (Some x) Q
  found_some x holds = record { each = λ y is. subst Q (same_Some x y is) holds }

  -- one of two, by a test
  pub found_if : {o p : Option A} (b : Bool) → Found o Q → Found p Q → Found (cond b o p) Q
  found_if b one other = search rules

  -- and by one whose answer is told
  pub found_test : {o p : Option A} (b : Bool) → (b ≡ true → Found o Q) → (b ≡ false → Found p Q) → Found (cond b o p) Q
  found_test b one other = search rules

  -- where more is asked of a result
  pub found_same : {B : Type 0} {o : Option B} (f : B → Option A) → ((x : B) → o ≡ Some x → Found (f x) Q) → Found (option_and_then f o) Q
  found_same {o = None} f on = found_none
  found_same {o = Some x} f on = on x refl

  -- a limit that is weaker
  pub found_weaker : {o : Option A} {P : A → Type 0} → Found o P → ((x : A) → P x → Q x) → Found o Q
  found_weaker holds on = record { each = λ x is. on x (holds.each x is) }

  -- one result after another
  pub found_then : {B : Type 0} {P : B → Type 0} {o : Option B} (f : B → Option A) → Found o P → ((x : B) → P x → Found (f x) Q) → Found (option_and_then f o) Q
  found_then {o = None} f holds on = found_none
  found_then {o = Some x} f holds on = on x (holds.each x refl)

  -- a result under a function
  pub found_map : {B : Type 0} {P : B → Type 0} {o : Option B} (f : B → A) → Found o P → ((x : B) → P x → Q (f x)) → Found (option_map f o) Q
  found_map {o = None} f holds on = found_none
  found_map {o = Some x} f holds on = found_some (f x) (on x (holds.each x refl))

  -- whatever the result is
  pub found_any : {o : Option A} → ((x : A) → o ≡ Some x → Q x) → Found o Q
  found_any each = record { each = each }
