-- A profile with what it falls back on.
use Rattle.std.specs.Prelude.{◌≡◌, ℕ, codes, List, [], ◌∷◌, map, MatchOption, Option, Some, None, option_and_then, slice_get, string_bytes}
use Rattle.std.specs.List.{AllByRecursion}
use Rattle.toml.specs.Data.{Data}
use Rattle.toml.specs.View.{table_view}
use Rattle.nextest_config_values.specs.Read.{Reading}
use Rattle.toml_spans.specs.Step.{key, PathStep}
use Rattle.toml_spans.specs.declared.place.Span.{Span}
use Rattle.nextest_config_profiles.specs.Chain.{IsWrong, no_profile, not_defined, not_text, ring, Wrong}
use Rattle.nextest_config_profiles.specs.Effective.{IsEffective}
use Rattle.nextest_config_profiles.specs.Merged.{Layers}
use Rattle.nextest_config_profiles.specs.Layer.{file_at, IsSpanAt, profiles_at}
use Rattle.nextest_config_profiles.specs.Reach.{AreReached, lent_files}
use Rattle.nextest_config_profiles.specs.Said.{Path}
use Rattle.nextest_config_profiles.specs.declared.effective.Effective.{Effective}
use Rattle.nextest_config_profiles.specs.declared.layer.Layer.{Layer}
use Rattle.nextest_config_profiles.specs.declared.profile.EffectiveProfile.{EffectiveProfile}
use Rattle.nextest_config_profiles.specs.declared.profile_alone.ProfileAlone.{ProfileAlone}
use Rattle.nextest_config_profiles.specs.declared.profile_alone.Profiles.{Profiles}
use Rattle.nextest_config_profiles.specs.declared.profile.ProfileFault.{ProfileFault}
use Rattle.nextest_config_profiles.specs.declared.profile.ProfileFault.TheVariants as faults

-- the layers by which a profile is told: what nextest sets itself, and above that the files
abbrev pub layers_in : EffectiveProfile → Layers
layers_in profile =
    profiles_at (table_view profile.defaults) ∷ lent_files profile.profiles.items

-- the names of a profile and of those that come after it, up to `default`
abbrev pub chain_in : EffectiveProfile → List (List ℕ)
chain_in profile = map string_bytes profile.chain.items

-- what a fault of a profile says, unless memory was refused
abbrev pub profile_wrong : ProfileFault → Option Wrong
profile_wrong faults.NoProfile = Some no_profile
profile_wrong (faults.Ring profile place) = Some (ring (string_bytes profile))
profile_wrong (faults.NotDefined profile parent place) =
    Some (not_defined (string_bytes profile) (string_bytes parent))
profile_wrong (faults.NotText profile place) = Some (not_text (string_bytes profile))
profile_wrong faults.Memory = None

-- the fault tells what is wrong with the chain of a profile, unless memory was refused
abbrev pub IsProfileFault : Layers → List ℕ → ProfileFault → Type 0
IsProfileFault layers name fault =
    MatchOption (profile_wrong fault) (Unit {0}) (IsWrong layers name)

-- ---- where values stand

-- the steps of a path below `profile`, from the top
abbrev pub steps_to : Path → List PathStep
steps_to path = key (codes "profile") ∷ map key path

-- the files by which a profile is told, the lowest first
abbrev pub files_in : EffectiveProfile → List Layer
files_in profile = profile.layers.now

-- the file of the layer at a position, if it is one
abbrev pub file_in : EffectiveProfile → ℕ → Option Layer
file_in profile = file_at (files_in profile)

-- what the layer at a position has for profiles
abbrev pub layer_at : Layers → ℕ → Option Data
layer_at layers position = option_and_then (λ layer. layer) (slice_get layers position)

-- the range of a path below `profile` in a file
abbrev pub IsSpanBy : Layer → Path → Option Span → Type 0
IsSpanBy file path = IsSpanAt file (steps_to path)

-- the range of a path below `profile` in the file of a layer, and none where that is no file
abbrev pub IsSpanIn : EffectiveProfile → ℕ → Path → Option Span → Type 0
IsSpanIn profile layer path span =
    MatchOption (file_in profile layer) (span ≡ None) (λ file. IsSpanBy file path span)

-- what a profile gets for the setting at these keys
abbrev pub Gets : {X Y : Type 0} → (X → Y) → Reading Data (Option Y) → EffectiveProfile → Path
    → Effective X → Type 0
Gets seen reading profile keys effective =
    IsEffective seen reading (layers_in profile) keys (chain_in profile) effective

-- ---- what each layer has for one profile

-- this is what these layers have for the profile of its name
abbrev pub IsLookedUp : Layers → ProfileAlone → Type 0
IsLookedUp layers profile = AreReached layers (profile.name.now ∷ []) profile.layers.items

-- each is what these layers have for the profile of its name
abbrev pub AreLookedUp : Layers → List ProfileAlone → Type 0
AreLookedUp layers = AllByRecursion (IsLookedUp layers)

-- the names of profiles
abbrev pub names_of : List ProfileAlone → List (List ℕ)
names_of = map (λ profile. profile.name.now)

-- these are the profiles of the chain, and each is what the layers have for it
pub record AreProfiles (profiles : Profiles) : Type 0 where
  pub chain_is : names_of profiles.chain.now ≡ chain_in profiles.effective.now
  pub chain_looked_up : AreLookedUp (layers_in profiles.effective.now) profiles.chain.now
  pub all_looked_up : AreLookedUp (layers_in profiles.effective.now) profiles.all.now
