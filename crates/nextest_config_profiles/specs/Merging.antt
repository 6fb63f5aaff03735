-- How a layer is merged into what lies below it.
use Rattle.std.specs.Prelude.{◌≡◌, ◌≢◌, ℕ, List, Option, Some}
use Rattle.toml.specs.Data.{Data, get_member, Members}
use Rattle.nextest_config_profiles.specs.Said.{bare, barred, branch, leaf, Path, Said, said_at, silent}

-- what is seen of what layers say: whether nothing is there, or nothing can be, is one
abbrev pub seen : Said → Said
seen barred = silent
seen said = said

-- what is seen at a path below a value, if there is one
abbrev pub seen_at : Path → Option Data → Said
seen_at path value = seen (said_at path value)

-- what is seen where a layer that says this lies over what was seen
abbrev pub over : Said → Said → Said
over below silent = below
over below barred = silent
over below branch = branch
over branch bare = branch
over below said = said

-- what is seen at each path is what one value lying over another gives
abbrev pub IsOver : Option Data → Option Data → Option Data → Type 0
IsOver below value merged =
    (path : Path) → seen_at path merged ≡ over (seen_at path below) (said_at path value)

-- a key got this value, and the others kept theirs
pub record Puts (key : List ℕ) (value : Data) (before after : Members) : Type 0 where
  pub here : get_member key after ≡ Some value
  pub others : (other : List ℕ) → other ≢ key → get_member other after ≡ get_member other before
