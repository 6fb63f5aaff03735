-- What layers come to when they are merged, the lowest first.
use Rattle.std.specs.Prelude.{◌≡◌, ◌↔◌, ℕ, List, ◌++◌, map, Option, Some, None}
use Rattle.toml.specs.Data.{Data, no_members, table}
use Rattle.nextest_config_profiles.specs.Said.{bare, barred, branch, leaf, Path, Said, said_at, silent}
use Rattle.nextest_config_profiles.specs.Selection.{IsLeafAmong}

-- layers, the lowest first: what each has, if anything
abbrev pub Layers : Type 0
Layers = List (Option Data)

-- the layers together have this leaf at a path, by the layer at this position
abbrev pub IsLeaf : Layers → Path → ℕ → Data → Type 0
IsLeaf layers path position value = IsLeafAmong (map (said_at path) layers) position value

-- the layers have no leaf at a path, nor below it
abbrev pub HasNoValue : Layers → Path → Type 0
HasNoValue layers path =
    (below : Path) (position : ℕ) (value : Data) → IsLeaf layers (path ++ below) position value → ⊥

-- the leaf that is said to be at a path, if one is: a value that is no table, or an empty table
abbrev pub leaf_of : Said → Option Data
leaf_of (leaf value) = Some value
leaf_of bare = Some (table no_members)
leaf_of other = None

-- a value has this leaf at a path below it
abbrev pub HasLeaf : Data → Path → Data → Type 0
HasLeaf whole path value = leaf_of (said_at path (Some whole)) ≡ Some value

-- a value has just the leaves that the layers together have below a path
abbrev pub IsMergedOver : Layers → Path → Data → Type 0
IsMergedOver layers path whole = (below : Path) (value : Data)
    → HasLeaf whole below value ↔ ((position : ℕ) × IsLeaf layers (path ++ below) position value)
