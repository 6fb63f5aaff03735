-- Values that have the same leaves, and what is the same where they are read.
use Rattle.std.specs.Prelude.{◌↔◌, ℕ, List, Option, Some, None}
use Rattle.toml.specs.Data.{Data}
use Rattle.nextest_config_values.specs.Read.{Reading}
use Rattle.nextest_config_elements.specs.Readers.{read_by, ReaderOf, unread}
use Rattle.nextest_config_profiles.specs.Merged.{HasLeaf}
use Rattle.nextest_config_profiles.specs.Said.{Path}
use Rattle.nextest_config_profiles.specs.declared.effective.Effective.{Effective}
use Rattle.nextest_config_profiles.specs.declared.effective.Effective.TheVariants as given

-- two values have the same leaves: they differ at most in the order in which tables have their keys
-- (TOML 1.1, "Table")
abbrev pub AreAlike : Data → Data → Type 0
AreAlike v w = (path : Path) (value : Data) → HasLeaf v path value ↔ HasLeaf w path value

-- what a value means is what each one means that has the same leaves
pub record TakesAlike {X : Type 0} (reading : Reading Data X) : Type 0 where
  pub means_alike : (v w : Data) → AreAlike v w → (x : X) → reading.means v x → reading.means w x

-- so does the reading of a type, where one reads the value
abbrev pub AreTakenAlike : ReaderOf → Type 0
AreTakenAlike unread = Unit {0}
AreTakenAlike (read_by seen reading) = TakesAlike reading

-- the profile whose value is given, and what is seen of that
abbrev pub given_value : {X Y : Type 0} → (X → Y) → Effective X → Option (List ℕ × Y)
given_value seen (given.Value profile x) = Some (profile.now, seen x)
given_value seen other = None

-- the profile of which something is given
abbrev pub given_by : {X : Type 0} → Effective X → Option (List ℕ)
given_by (given.Value profile x) = Some profile.now
given_by (given.NotJudged profile) = Some profile.now
given_by (given.Fault profile refused) = Some profile.now
given_by given.Nothing = None
