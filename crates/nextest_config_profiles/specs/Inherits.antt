-- Where profiles say what they inherit from.
use Rattle.std.specs.Prelude.{◌≡◌, codes, IsSome, List, [], ◌∷◌, ℕ, Option, Some, None, slice_get, string_bytes}
use Rattle.nextest_config_profiles.specs.Chain.{of_inherits}
use Rattle.nextest_config_profiles.specs.LastValue.{IsLastValue}
use Rattle.nextest_config_profiles.specs.Layer.{profiles_in}
use Rattle.nextest_config_profiles.specs.Profile.{IsSpanBy}
use Rattle.nextest_config_profiles.specs.Said.{Path}
use Rattle.nextest_config_profiles.specs.declared.inherits.InheritsPlace.{InheritsPlace}
use Rattle.nextest_config_profiles.specs.declared.last_value.LayerValue.{LayerValue}
use Rattle.nextest_config_profiles.specs.declared.layer.Layer.{Layer}
use Rattle.nextest_config_profiles.specs.declared.profile.ProfileFault.{ProfileFault}
use Rattle.nextest_config_profiles.specs.declared.profile.ProfileFault.TheVariants as faults

-- this value of a file at a path below `profile`, with its range there
pub record IsPlaceOf (files : List Layer) (found : LayerValue) (path : Path)
    (place : InheritsPlace) : Type 0 where
  pub in_file : slice_get files found.layer ≡ Some place.file.now
  pub value_is : place.value.now ≡ found.value.now
  pub at_span : IsSpanBy place.file.now path place.span

-- what the last of the files that say anything of `inherits` of a profile has there
pub record IsFoundPlace (files : List Layer) (profile : List ℕ)
    (place : InheritsPlace) : Type 0 where
  pub found : LayerValue
  pub last : IsLastValue (of_inherits (profiles_in files) profile) (Some found)
  pub place_is : IsPlaceOf files found (profile ∷ codes "inherits" ∷ []) place

-- the place of what the files have at `inherits` of a profile, or that they have nothing there
abbrev pub IsInheritsPlace : List Layer → List ℕ → Option InheritsPlace → Type 0
IsInheritsPlace files profile None = IsLastValue (of_inherits (profiles_in files) profile) None
IsInheritsPlace files profile (Some place) = IsFoundPlace files profile place

-- the place of a fault of a profile is that of what this profile inherits from
abbrev pub IsPlacedFault : List Layer → ProfileFault → Type 0
IsPlacedFault files faults.NoProfile = Unit {0}
IsPlacedFault files (faults.Ring profile place) = IsInheritsPlace files (string_bytes profile) place
IsPlacedFault files (faults.NotDefined profile parent place) =
    IsInheritsPlace files (string_bytes profile) place
IsPlacedFault files (faults.NotText profile place) =
    IsInheritsPlace files (string_bytes profile) place
IsPlacedFault files faults.Memory = Unit {0}

-- a fault that names a profile has a place
abbrev pub HasPlace : ProfileFault → Type 0
HasPlace faults.NoProfile = Unit {0}
HasPlace (faults.Ring profile place) = IsSome place
HasPlace (faults.NotDefined profile parent place) = IsSome place
HasPlace (faults.NotText profile place) = IsSome place
HasPlace faults.Memory = Unit {0}
