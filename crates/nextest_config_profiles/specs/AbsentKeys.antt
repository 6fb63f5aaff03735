-- What a reader takes for a key that a table doesn't have.
use Rattle.std.specs.Prelude.{◌≡◌, ◌≢◌, ◌↔◌, ℕ, false, List, Some, None}
use Rattle.std.specs.List.{AllByRecursion}
use Rattle.toml.specs.Data.{Data, get_member, Members, table}
use Rattle.nextest_config_elements.specs.Fields.{Fields, KeyRule}
use Rattle.nextest_config_values.specs.Read.{Reading}
use Rattle.nextest_config_profiles.specs.Report.Rows.{value_taken}
use Rattle.nextest_config_profiles.specs.Report.Setting.{rules_in}

-- a key that a table lacks has this value in another one, which has the same at all other keys
pub record IsPutIn (key : List ℕ) (value : Data) (lacking filled : Members) : Type 0 where
  pub lacks : get_member key lacking ≡ None
  pub has : get_member key filled ≡ Some value
  pub others : (other : List ℕ) → other ≢ key → get_member other filled ≡ get_member other lacking

-- a table means what it means with this value put in at a key that it lacks
pub record TakesFor {X : Type 0} (reading : Reading Data X) (key : List ℕ) (value : Data) : Type 0
  where
    pub means_same : (lacking filled : Members) → IsPutIn key value lacking filled → (x : X)
        → reading.means (table lacking) x ↔ reading.means (table filled) x

-- of a key that a table may lack, a value that is told as taken for it is what the reading takes
abbrev pub TakesDefault : {X : Type 0} → Reading Data X → KeyRule → Type 0
TakesDefault reading rule = rule.required ≡ false → (value : Data)
    → value_taken rule.absent ≡ Some value → TakesFor reading rule.key value

-- what is told as taken for the keys that a table may lack is what the reading takes
abbrev pub TakesDefaults : {X : Type 0} → Reading Data X → Fields → Type 0
TakesDefaults reading known = AllByRecursion (TakesDefault reading) (rules_in known)
