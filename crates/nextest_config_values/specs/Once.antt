-- Texts and values that mean one thing, or have one fault.
use Rattle.std.specs.Prelude.{◌≡◌, ◌⊎◌}

-- something is meant, or something is wrong
abbrev pub HasMeaningOrFault : {X F : Type 0} → (X → Type 0) → (F → Type 0) → Type 0
HasMeaningOrFault {X} {F} means is_fault = ((x : X) × means x) ⊎ ((f : F) × is_fault f)

-- each value means one thing and has no fault, or means nothing and has one fault
pub record HasOneMeaningOrFault {D X F : Type 0} (means : D → X → Type 0)
    (is_fault : D → F → Type 0)
    : Type 0 where
  pub meaning_or_fault : (value : D) → HasMeaningOrFault (means value) (is_fault value)
  pub one_meaning : (value : D) (x y : X) → means value x → means value y → x ≡ y
  pub one_fault : (value : D) (e f : F) → is_fault value e → is_fault value f → e ≡ f
  pub never_both : (value : D) (x : X) (f : F) → means value x → is_fault value f → ⊥
