-- The leaves that layers have below a path, listed.
use Rattle.std.specs.Prelude.{◌≡◌, ℕ, List, ◌∷◌, ◌++◌, map, Option, Some, string_bytes}
use Rattle.std.specs.List.{AllByRecursion}
use Rattle.toml.specs.Data.{Data, get_member, Members}
use Rattle.toml.specs.View.{view}
use Rattle.nextest_config_profiles.specs.Merged.{IsLeaf, Layers, leaf_of}
use Rattle.nextest_config_profiles.specs.Profiles.{SomeOf}
use Rattle.nextest_config_profiles.specs.Said.{Path, said_at}
use Rattle.nextest_config_profiles.specs.declared.leaves.Leaf.{Leaf}
use Rattle.nextest_config_profiles.specs.declared.leaves.ValueLeaf.{ValueLeaf}

-- ---- of layers

-- the layers have this leaf below a path, by the layer that it tells
abbrev pub IsLeafBelow : Layers → Path → Leaf → Type 0
IsLeafBelow layers path leaf =
    IsLeaf layers (path ++ map string_bytes leaf.keys.items) leaf.layer (view leaf.value)

-- each leaf that the layers have below a path is listed
abbrev pub AreAllLeaves : Layers → Path → List Leaf → Type 0
AreAllLeaves layers path leaves =
    (below : Path) (position : ℕ) (value : Data) → IsLeaf layers (path ++ below) position value
    → SomeOf (λ leaf. (map string_bytes leaf.keys.items ≡ below)
    × (leaf.layer ≡ position) × (view leaf.value ≡ value)) leaves

-- ---- of one value

-- where a leaf stands, and what it is
abbrev pub PlacedLeaf : Type 0
PlacedLeaf = Path × Data

-- where a leaf of a value stands, and what it is
abbrev pub placed_leaf : ValueLeaf → PlacedLeaf
placed_leaf leaf = (map string_bytes leaf.keys.items, view leaf.value)

-- where a leaf of layers stands, and what it is, without its layer
abbrev pub placed : Leaf → PlacedLeaf
placed leaf = (map string_bytes leaf.keys.items, view leaf.value)

-- what is there, if anything, has this leaf at a path below it
abbrev pub HasLeafAt : Option Data → Path → Data → Type 0
HasLeafAt whole below value = leaf_of (said_at below whole) ≡ Some value

-- these are just the leaves of what stands at a path
pub record AreLeavesAt (path : Path) (whole : Option Data) (leaves : List PlacedLeaf) : Type 0 where
  pub each : AllByRecursion (λ leaf. (below : Path) × (leaf.0 ≡ path ++ below)
      × HasLeafAt whole below leaf.1) leaves
  pub all : (below : Path) (value : Data) → HasLeafAt whole below value
      → SomeOf (λ leaf. (leaf.0 ≡ path ++ below) × (leaf.1 ≡ value)) leaves

-- these are just the leaves of the members of a table at a path
pub record AreLeavesIn (path : Path) (members : Members) (leaves : List PlacedLeaf) : Type 0 where
  pub each : AllByRecursion (λ leaf. (key : List ℕ) × (below : Path)
      × (leaf.0 ≡ path ++ key ∷ below) × HasLeafAt (get_member key members) below leaf.1) leaves
  pub all : (key : List ℕ) (below : Path) (value : Data)
      → HasLeafAt (get_member key members) below value
      → SomeOf (λ leaf. (leaf.0 ≡ path ++ key ∷ below) × (leaf.1 ≡ value)) leaves

-- a list got more leaves at its end, which are so
pub record Adds (AreThose : List PlacedLeaf → Type 0)
    (before after : List PlacedLeaf) : Type 0 where
  pub added : List PlacedLeaf
  pub whole : after ≡ before ++ added
  pub those : AreThose added

-- the layers together have this leaf below a path, by one of them
abbrev pub IsOfLayers : Layers → Path → PlacedLeaf → Type 0
IsOfLayers layers path leaf = (position : ℕ) × IsLeaf layers (path ++ leaf.0) position leaf.1
