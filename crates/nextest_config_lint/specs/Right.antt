-- Whether a value of a profile is right.
use Rattle.std.specs.Prelude.{◌↔◌, ℕ, IsTrue, List, [], Option, Some, None}
use Rattle.toml.specs.Data.{Data}
use Rattle.nextest_config.specs.declared.nextest_version.edition.Edition.TheVariants.{TableOnly}
use Rattle.nextest_config_elements.specs.Fields.{KeyRule, Parts}
use Rattle.nextest_config_elements.specs.Keys.{profile_fields}
use Rattle.nextest_config_lint.specs.Conversion.{field_named}
use Rattle.nextest_config_lint.specs.FindingsLaws.{HaveNoFault}
use Rattle.nextest_config_lint.specs.Settings.{settings_in, SettingView}
use Rattle.nextest_config_lint.specs.declared.right.Rightness.{Rightness}

-- nothing is wrong, key by key, with a value of a field; without a field nothing ever is
abbrev pub IsRightBy : Option (KeyRule × Parts) → Data → Type 0
IsRightBy None value = Unit {0}
IsRightBy (Some (rule, parts)) value =
    HaveNoFault TableOnly (settings_in rule.shape rule.severity parts [] value)

-- nothing is wrong, key by key, with the value at a key of a profile
abbrev pub IsRightAt : List ℕ → Data → Type 0
IsRightAt name value = IsRightBy (field_named name profile_fields) value

-- one that began with nothing wrong says whether nothing is wrong with any of these
abbrev pub AreRight : Rightness → List SettingView → Rightness → Type 0
AreRight start settings rightness =
    IsTrue start.is_right → (IsTrue rightness.is_right ↔ HaveNoFault TableOnly settings)
