-- What layers say together: the last that isn't silent decides.
use Rattle.std.specs.Prelude.{◌≡◌, ◌⊎◌, ℕ, List, [], ◌∷◌, ◌++◌, length}
use Rattle.std.specs.List.{AllByRecursion}
use Rattle.toml.specs.Data.{Data, no_members, table}
use Rattle.nextest_config_profiles.specs.Said.{bare, barred, branch, leaf, Said, silent}

-- the last layer that isn't silent stands at this position, and says this
-- (nextest's documentation)
pub record IsLast (all : List Said) (position : ℕ) (said : Said) : Type 0 where
  pub below : List Said
  pub above : List Said
  pub whole : all ≡ below ++ (said ∷ above)
  pub place : length below ≡ position
  pub silent_above : AllByRecursion (λ other. other ≡ silent) above

-- a value that is no table stands there, or on the way
abbrev pub IsValue : Said → Type 0
IsValue barred = Unit {0}
IsValue (leaf value) = Unit {0}
IsValue other = ⊥

-- there is nothing, or an empty table
abbrev pub IsEmpty : Said → Type 0
IsEmpty silent = Unit {0}
IsEmpty bare = Unit {0}
IsEmpty other = ⊥

-- a list is empty, or its last element is so
abbrev pub EndsIn : (Said → Type 0) → List Said → Type 0
EndsIn P [] = Unit {0}
EndsIn P (said ∷ []) = P said
EndsIn P (said ∷ other ∷ rest) = EndsIn P (other ∷ rest)

-- each layer above the last one with a value that is no table, there or on the way, has there an
-- empty table or nothing
pub record IsEmptied (all : List Said) : Type 0 where
  pub old : List Said
  pub recent : List Said
  pub whole : all ≡ old ++ recent
  pub value_last : EndsIn IsValue old
  pub empty : AllByRecursion IsEmpty recent

-- the layers together have this leaf, by the layer at this position: a value that is no table, or
-- an empty table where no other one is left
abbrev pub IsLeafAmong : List Said → ℕ → Data → Type 0
IsLeafAmong all position value =
    IsLast all position (leaf value)
    ⊎ (IsLast all position bare × IsEmptied all × (value ≡ table no_members))

-- the layers together have nothing: all are silent, or the last that isn't has a value on the way
abbrev pub HasNothing : List Said → Type 0
HasNothing all =
    AllByRecursion (λ said. said ≡ silent) all ⊎ ((position : ℕ) × IsLast all position barred)
