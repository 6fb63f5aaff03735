-- The walk through `cfg(..)`, as the code has it.
use Rattle.std.proofs.Common.{◌≡◌, ℕ, Bor, false, List, [], ◌∷◌, ◌++◌, length, Some, refl, sym, ap, ◌∙◌, arith, length-append}
use Rattle.std.specs.Str.{chars}
use Rattle.nextest_config_filters.specs.Platform.Member.{reading_at}
use Rattle.nextest_config_filters.specs.Platform.Steps.{outermost_first, Shows}
use Rattle.nextest_config_filters.specs.Platform.Walk.{is_miscounted, next_closed, State}
use Rattle.nextest_config_filters.specs.declared.platform.reading.After.TheVariants as after
use Rattle.nextest_config_filters.specs.declared.platform.reading.Level.{Level}
use Rattle.nextest_config_filters.specs.declared.platform.walk.State.{State as OwnState}

-- where a state is shown, what is read is the same
pub shown_reading : (around : List Level) (own : OwnState) (now : State) → Shows around own now
    → reading_at own.after (chars own.rest.now) ≡ reading_at now.before now.rest
shown_reading around own now shows = rw (shows.before, shows.rest) refl

-- ---- levels around

snoc_same : (xs ys : List Level) (x y : Level) → xs ++ (x ∷ []) ≡ ys ++ (y ∷ []) → (xs ≡ ys) × (x ≡ y)
snoc_same [] [] x y e = (refl, cc e)
snoc_same [] (b ∷ ys) x y e = absurd (omega (arith, ap length e, length-append ys (y ∷ [])))
snoc_same (a ∷ xs) [] x y e = absurd (omega (arith, ap length e, length-append xs (x ∷ [])))
snoc_same (a ∷ xs) (b ∷ ys) x y e =
    let tail : xs ++ (x ∷ []) ≡ ys ++ (y ∷ []) = cc e in
    let first : a ≡ b = cc e in
    let inner = snoc_same xs ys x y tail in
    (cc (inner.0, first), inner.1)

-- the last of the levels around is the innermost
popped : (left around : List Level) (inner : Level) → left ++ (inner ∷ []) ≡ outermost_first around
    → (outer : List Level) × (around ≡ inner ∷ outer) × (left ≡ outermost_first outer)
popped left [] inner e = absurd (omega (arith, ap length e, length-append left (inner ∷ [])))
popped left (level ∷ outer) inner e =
    let same = snoc_same left (outermost_first outer) inner level e in
    (outer, ap (λ l. l ∷ outer) (sym same.1), same.0)

pub closing_step : (level inner : Level) (left around : List Level) (rest : Bor (List ℕ)) (cs : List ℕ)
    → is_miscounted level ≡ false → left ++ (inner ∷ []) ≡ outermost_first around → chars rest.now ≡ cs
    → (over : State) × (next_closed level around cs ≡ Some over)
    × Shows left (record { after = after.Member; level = inner; rest = rest }) over
closing_step level inner left around rest cs counted e is =
    let split = popped left around inner e in (
      record { before = after.Member; level = inner; outer = split.0; rest = cs },
      ap (λ a. next_closed level a cs) split.1 ∙ rw counted refl,
      record { before = refl; level = refl; outer = split.2; rest = is },
    )

pub levels_many : (around : List Level) → length (outermost_first around) ≡ length around
levels_many [] = refl
levels_many (level ∷ outer) = omega (arith, length-append (outermost_first outer) (level ∷ []), levels_many outer)
