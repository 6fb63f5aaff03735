-- The overrides that the profiles of a chain have, as they are written.
use Rattle.std.specs.Prelude.{ℕ, zero, suc, List, [], ◌∷◌, ◌++◌, codes, flat_map, length, Option, Some, None, option_and_then}
use Rattle.toml.specs.Data.{as_array, as_table, Data, get_member, item, Items, no_items}
use Rattle.toml.specs.View.{view}
use Rattle.nextest_config_profiles.specs.Merged.{Layers}
use Rattle.nextest_config_profiles.specs.Profile.{layer_at}
use Rattle.nextest_config_profiles.specs.Report.Standing.{standing_in}
use Rattle.nextest_config_profiles.specs.declared.report.elements.Element.{Element}

-- an override: whose it is, the layer and its position there, and what it is
pub record ElementValue : Type 0 where
  pub profile : List ℕ
  pub layer : ℕ
  pub position : ℕ
  pub value : Data

-- items, numbered from a position on
abbrev pub numbered : List ℕ → ℕ → ℕ → Items → List ElementValue
numbered profile layer position no_items = []
numbered profile layer position (item value rest) =
    record { profile = profile; layer = layer; position = position; value = value }
    ∷ numbered profile layer (suc position) rest

-- items, if there are some, numbered from 0 on
abbrev pub numbered_if : List ℕ → ℕ → Option Items → List ElementValue
numbered_if profile layer None = []
numbered_if profile layer (Some items) = numbered profile layer 0 items

-- what a profile has at `overrides`
abbrev pub overrides_in : Option Data → Option Items
overrides_in profile =
    option_and_then as_array
    (option_and_then (get_member (codes "overrides")) (option_and_then as_table profile))

-- the overrides that a layer has for a profile
abbrev pub elements_in : Layers → List ℕ → ℕ → List ElementValue
elements_in layers profile layer =
    numbered_if profile layer (overrides_in (standing_in profile (layer_at layers layer)))

-- the overrides that the first so many layers have for a profile, the highest first
abbrev pub elements_below : Layers → List ℕ → ℕ → List ElementValue
elements_below layers profile zero = []
elements_below layers profile (suc layer) =
    elements_in layers profile layer ++ elements_below layers profile layer

-- the overrides of all profiles of a chain, in their order (nextest's test `tool_config_basic`)
abbrev pub all_elements : Layers → List (List ℕ) → List ElementValue
all_elements layers chain =
    flat_map (λ profile. elements_below layers profile (length layers)) chain

-- ---- as the code has them

-- an override, as the code has it
abbrev pub element_of : Element → ElementValue
element_of element = record {
  profile = element.profile.now;
  layer = element.layer;
  position = element.position;
  value = view element.value.now;
}
