-- What layers have at the keys of profiles, and on the way there.
use Rattle.std.specs.Prelude.{ℕ, zero, suc, List, [], ◌∷◌, ◌++◌, flat_map, if◌then◌else◌, length, nat_eq, Option, Some, None, option_and_then, option_map}
use Rattle.std.specs.Cmp.Lexicographic.{pointwise}
use Rattle.toml.specs.Data.{as_table, Data, get_member, table}
use Rattle.toml.specs.View.{view}
use Rattle.nextest_config_profiles.specs.Merged.{Layers}
use Rattle.nextest_config_profiles.specs.Profile.{layer_at}
use Rattle.nextest_config_profiles.specs.Said.{Path}
use Rattle.nextest_config_profiles.specs.declared.report.standing.Reached.{Reached}
use Rattle.nextest_config_profiles.specs.declared.report.standing.Standing.{Standing}

-- a value, and how many keys lead to it
pub record ReachedValue : Type 0 where
  pub depth : ℕ
  pub value : Data

-- a value to which one more key leads
abbrev pub one_deeper : ReachedValue → ReachedValue
one_deeper reached = record { depth = suc reached.depth; value = reached.value }

-- what keys lead to: the value there, or one that is no table on the way
abbrev pub stands : Path → Option Data → Option ReachedValue
stands keys None = None
stands [] (Some value) = Some (record { depth = 0; value = value })
stands (key ∷ keys) (Some (table members)) =
    option_map one_deeper (stands keys (get_member key members))
stands (key ∷ keys) (Some value) = Some (record { depth = 0; value = value })

-- what a layer has for a profile
abbrev pub standing_in : List ℕ → Option Data → Option Data
standing_in profile layer = option_and_then (get_member profile) (option_and_then as_table layer)

-- a value that a layer has at keys of a profile, or on the way there, and how many lead to it
pub record StandingValue : Type 0 where
  pub profile : List ℕ
  pub layer : ℕ
  pub reached : ReachedValue

-- what keys of a profile lead to in a layer, as a list of one value or none
abbrev pub stands_there : List ℕ → ℕ → Option ReachedValue → List StandingValue
stands_there profile layer None = []
stands_there profile layer (Some reached) =
    record { profile = profile; layer = layer; reached = reached } ∷ []

-- what a layer has at keys of a profile, or on the way there
abbrev pub hidden_in : Layers → List ℕ → Path → ℕ → List StandingValue
hidden_in layers profile keys layer =
    stands_there profile layer (stands keys (standing_in profile (layer_at layers layer)))

-- what the first so many layers have at keys of a profile, or on the way, the highest first
abbrev pub hidden_below : Layers → List ℕ → Path → ℕ → List StandingValue
hidden_below layers profile keys zero = []
hidden_below layers profile keys (suc layer) =
    hidden_in layers profile keys layer ++ hidden_below layers profile keys layer

-- the names after this one
abbrev pub behind : List ℕ → List (List ℕ) → List (List ℕ)
behind name [] = []
behind name (first ∷ rest) = if pointwise nat_eq first name then rest else behind name rest

-- what lies below a layer of a profile, and what later profiles of the chain have
abbrev pub hidden_of : Layers → List (List ℕ) → List ℕ → Path → ℕ → List StandingValue
hidden_of layers chain profile keys layer = hidden_below layers profile keys layer
    ++ flat_map (λ other. hidden_below layers other keys (length layers)) (behind profile chain)

-- ---- as the code has them

-- a value that keys lead to, as the code has it
abbrev pub reached_of : Reached → ReachedValue
reached_of reached = record { depth = reached.depth; value = view reached.value.now }

-- a value that a layer has at keys of a profile, or on the way there, as the code has it
abbrev pub standing_of : Standing → StandingValue
standing_of standing = record {
  profile = standing.profile.now;
  layer = standing.layer;
  reached = reached_of standing.reached;
}
