-- What a chain of profiles gives a setting.
use Rattle.std.specs.Prelude.{◌≡◌, ◌⊎◌, ℕ, List, ◌∷◌, ◌++◌, Option, Some, None}
use Rattle.std.specs.List.{AllByRecursion}
use Rattle.toml.specs.Data.{Data}
use Rattle.nextest_config_values.specs.Read.{fault_of, Reading}
use Rattle.nextest_config_values.specs.Read.Fault.{Fault}
use Rattle.nextest_config_lint.specs.Faults.{IsUnjudged}
use Rattle.nextest_config_profiles.specs.Merged.{HasNoValue, IsMergedOver, Layers}
use Rattle.nextest_config_profiles.specs.Said.{Path}
use Rattle.nextest_config_profiles.specs.declared.effective.Effective.{Effective}
use Rattle.nextest_config_profiles.specs.declared.effective.Effective.TheVariants as given

-- what a reader makes of a value: its result, or a fault, which may be one that isn't judged
abbrev pub IsRead : {X Y : Type 0} → (X → Y) → Reading Data (Option Y) → Data → Effective X → Type 0
IsRead seen reading value (given.Value profile x) = reading.means value (Some (seen x))
IsRead seen reading value (given.NotJudged profile) =
    (fault : Fault) × reading.faults value fault × IsUnjudged value fault
IsRead seen reading value (given.Fault profile refused) = (fault : Fault)
    × (fault_of refused ≡ Some fault) × reading.faults value fault × (IsUnjudged value fault → ⊥)
IsRead seen reading value given.Nothing = ⊥

-- something is given, and by the profile of this name
abbrev pub IsOf : {X : Type 0} → List ℕ → Effective X → Type 0
IsOf name (given.Value profile x) = profile.now ≡ name
IsOf name (given.NotJudged profile) = profile.now ≡ name
IsOf name (given.Fault profile refused) = profile.now ≡ name
IsOf name given.Nothing = ⊥

module _ {X Y : Type 0} (seen : X → Y) (reading : Reading Data (Option Y))
    (layers : Layers) (keys : Path) where
  -- a profile doesn't count: it has no value there, or one that says that there is none
  abbrev pub Passes : List ℕ → Type 0
  Passes profile = HasNoValue layers (profile ∷ keys)
      ⊎ ((value : Data) × IsMergedOver layers (profile ∷ keys) value × reading.means value None)

  -- a profile gives this: what its value is read as, as the layers are merged
  pub record IsGiven (profile : List ℕ) (effective : Effective X) : Type 0 where
    pub value : Data
    pub merged : IsMergedOver layers (profile ∷ keys) value
    pub read : IsRead seen reading value effective
    pub of_profile : IsOf profile effective

  -- the first profile of the chain that counts gives this
  pub record IsGivenFirst (chain : List (List ℕ)) (effective : Effective X) : Type 0 where
    pub before : List (List ℕ)
    pub profile : List ℕ
    pub after : List (List ℕ)
    pub whole : chain ≡ before ++ (profile ∷ after)
    pub passed : AllByRecursion Passes before
    pub given : IsGiven profile effective

  -- what the chain gives the setting: what the first profile that counts gives, or nothing
  -- (nextest's documentation)
  abbrev pub IsEffective : List (List ℕ) → Effective X → Type 0
  IsEffective chain effective = IsGivenFirst chain effective
      ⊎ (AllByRecursion Passes chain × (effective ≡ given.Nothing))
