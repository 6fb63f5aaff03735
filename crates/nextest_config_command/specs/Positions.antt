-- Two lists, element by element, by their positions.
use Rattle.std.specs.Prelude.{ℕ, suc, List, [], ◌∷◌}

-- the elements of two lists belong together, each two by their position, where the first have this
-- one
abbrev pub AllZipFrom : {X Y : Type 0} → (ℕ → X → Y → Type 0) → ℕ → List X → List Y → Type 0
AllZipFrom R position [] [] = Unit {0}
AllZipFrom R position [] (y ∷ ys) = ⊥
AllZipFrom R position (x ∷ xs) [] = ⊥
AllZipFrom R position (x ∷ xs) (y ∷ ys) = R position x y × AllZipFrom R (suc position) xs ys
