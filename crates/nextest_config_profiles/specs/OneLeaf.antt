-- A value that has one leaf alone, and the paths apart from it.
use Rattle.std.specs.Prelude.{◌≡◌, ◌++◌}
use Rattle.toml.specs.Data.{Data}
use Rattle.nextest_config_profiles.specs.Merged.{HasLeaf}
use Rattle.nextest_config_profiles.specs.Said.{Path}

-- a value has a leaf at this path alone
abbrev pub HasLeafAlone : Data → Path → Type 0
HasLeafAlone whole path = (other : Path) (value : Data) → HasLeaf whole other value → other ≡ path

-- neither path leads to the other
abbrev pub AreApart : Path → Path → Type 0
AreApart path other =
    ((rest : Path) → other ≡ path ++ rest → ⊥) × ((rest : Path) → path ≡ other ++ rest → ⊥)
