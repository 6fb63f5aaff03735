-- The profiles that layers have, and nextest's own.
use Rattle.std.specs.Prelude.{◌≡◌, ◌⊎◌, ℕ, codes, IsSome, List, [], ◌∷◌, Option, option_and_then}
use Rattle.std.proofs.Common.{Bor}
use Rattle.toml.specs.Data.{as_table, Data, get_member, Members}
use Rattle.nextest_config_profiles.specs.Merged.{Layers}

-- the name of the profile on which all others fall back in the end
abbrev pub default_profile : List ℕ
default_profile = codes "default"

-- the name of the profile that nextest has itself for Miri
abbrev pub default_miri : List ℕ
default_miri = codes "default-miri"

-- some element of a list is so
abbrev pub SomeOf : {A : Type 0} → (A → Type 0) → List A → Type 0
SomeOf P [] = ⊥
SomeOf P (x ∷ xs) = P x ⊎ SomeOf P xs

-- the profiles that a layer has
abbrev pub profiles_of : Option Data → Option Members
profiles_of = option_and_then as_table

-- a layer has a profile of this name
abbrev pub HasProfile : List ℕ → Option Data → Type 0
HasProfile name layer = IsSome (option_and_then (get_member name) (profiles_of layer))

-- nextest has the profile itself, or some layer has it (nextest's documentation)
abbrev pub IsProfile : Layers → List ℕ → Type 0
IsProfile layers name =
    (name ≡ default_profile) ⊎ ((name ≡ default_miri) ⊎ SomeOf (HasProfile name) layers)

-- a name is among those of a set
abbrev pub HasName : List (Bor (List ℕ)) → List ℕ → Type 0
HasName names name = SomeOf (λ other. other.now ≡ name) names
