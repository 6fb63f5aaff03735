-- The names of all profiles, in the order in which they are told.
use Rattle.std.specs.Prelude.{◌≡◌, ◌≢◌, ◌↔◌, ◌||◌, ℕ, Bool, List, ◌∷◌, nat_eq}
use Rattle.std.specs.Cmp.Lexicographic.{pointwise, slice_cmp}
use Rattle.std.specs.List.{AllByRecursion}
use Rattle.std.specs.List.Sorted.{IsStrictlySortedBy}
use Rattle.std.specs.Ordering.{nat_cmp}
use Rattle.nextest_config_profiles.specs.Merged.{Layers}
use Rattle.nextest_config_profiles.specs.Profiles.{default_miri, default_profile, IsProfile, SomeOf}

-- a name is one of these
abbrev pub IsAmong : List ℕ → List (List ℕ) → Type 0
IsAmong name names = SomeOf (λ other. other ≡ name) names

-- nextest has the profile itself
abbrev pub is_own : List ℕ → Bool
is_own name = pointwise nat_eq name default_profile || pointwise nat_eq name default_miri

-- the name is that of no profile that nextest has itself
abbrev pub IsOther : List ℕ → Type 0
IsOther name = (name ≢ default_profile) × (name ≢ default_miri)

-- `default` and `default-miri`, and then others, each once, in the order of their bytes
pub record AreInOrder (names : List (List ℕ)) : Type 0 where
  pub others : List (List ℕ)
  pub whole : names ≡ default_profile ∷ default_miri ∷ others
  pub are_others : AllByRecursion IsOther others
  pub ascend : IsStrictlySortedBy (slice_cmp nat_cmp) others

-- these are the names of all profiles that layers have, and of nextest's own
abbrev pub AreNamesOf : Layers → List (List ℕ) → Type 0
AreNamesOf layers names = (name : List ℕ) → IsAmong name names ↔ IsProfile layers name
