-- What the table of keys says of what nextest sets itself.
use Rattle.std.specs.Prelude.{◌≡◌, ◌∷◌, codes, None, Option, option_and_then, Some}
use Rattle.toml.specs.Data.{Data, get_member, table}
use Rattle.nextest_config_elements.specs.Fields.{Absent, inherited}
use Rattle.nextest_config_profiles.specs.Defaults.{default_values}
use Rattle.nextest_config_profiles.specs.Report.Narrowed.{value_below}
use Rattle.nextest_config_profiles.specs.Report.Setting.{SettingRule}

-- what nextest sets itself for a key that no profile has, by the table of keys, if anything
abbrev pub value_inherited : Absent → Option Data
value_inherited (inherited value) = value
value_inherited other = None

-- what a table has at `period`; of any other value the whole
abbrev pub period_or_whole : Data → Option Data
period_or_whole (table members) = get_member (codes "period") members
period_or_whole value = Some value

-- below all files `default` has for a setting what the table of keys says is set there, if
-- anything; where it has a table, its `period` is that
abbrev pub IsSetAsListed : SettingRule → Type 0
IsSetAsListed setting =
    option_and_then period_or_whole
    (value_below (codes "profile" ∷ codes "default" ∷ setting.keys) (table default_values))
    ≡ value_inherited setting.rule.absent
