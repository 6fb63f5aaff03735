-- The steps by which the names of one source are gathered.
use Rattle.std.specs.Prelude.{◌≡◌, ◌↔◌, ◌⊎◌, ℕ, List, Contains, Some}
use Rattle.toml.specs.Data.{Data, as_str}
use Rattle.nextest_config.specs.NextestVersion.Experimental.{IsUnknown, word_of}
use Rattle.nextest_config.specs.NextestVersion.ExperimentalDeserialize.{AreSetsInOrder, Features}
use Rattle.nextest_config.specs.declared.nextest_version.experimental.ConfigExperimental.{ConfigExperimental}

-- the second has what the first has, and this name: as the feature whose word it is, or else as
-- another name
pub record AddsText (before : Features) (text : List ℕ) (after : Features) : Type 0 where
  pub more_known : (feature : ConfigExperimental) → Contains after.known feature
      ↔ (Contains before.known feature ⊎ (word_of feature ≡ text))
  pub more_unknown : (other : List ℕ) → Contains after.unknown other
      ↔ (Contains before.unknown other ⊎ ((text ≡ other) × IsUnknown other))
  pub still_in_order : AreSetsInOrder before → AreSetsInOrder after

-- the value is a text, which is added
abbrev pub AddsItem : Features → Data → Features → Type 0
AddsItem before value after = (text : List ℕ) × (as_str value ≡ Some text)
    × AddsText before text after
