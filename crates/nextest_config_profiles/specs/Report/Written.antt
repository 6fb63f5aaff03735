-- Values that are told as they are written.
use Rattle.std.specs.Prelude.{Bool, true, false, [], ◌∷◌, IsTrue}
use Rattle.toml.specs.Data.{Data}
use Rattle.nextest_config_elements.specs.declared.field.FaultSeverity.{FaultSeverity}
use Rattle.nextest_config_elements.specs.declared.field.FaultSeverity.TheVariants.{Warning}
use Rattle.nextest_config_lint.specs.Right.{IsRightAt}
use Rattle.nextest_config_profiles.specs.Said.{Path}

-- a setting is known from nextest's documentation alone
abbrev pub is_documented : FaultSeverity → Bool
is_documented Warning = true
is_documented other = false

-- something is wrong with the value at a key of a profile, the first of these
abbrev pub IsWrongAt : Path → Data → Type 0
IsWrongAt (key ∷ below) value = IsRightAt key value → ⊥
IsWrongAt [] value = ⊥

-- something is wrong with the value at keys of a profile, of a setting that is known from nextest's
-- documentation alone
abbrev pub IsDoubted : FaultSeverity → Path → Data → Type 0
IsDoubted severity keys value = IsTrue (is_documented severity) × IsWrongAt keys value
