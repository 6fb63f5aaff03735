-- The settings that are told, as the table of keys has them.
use Rattle.std.specs.Prelude.{Bool, true, false, if◌then◌else◌, List, [], ◌∷◌, ◌++◌, Some, None}
use Rattle.nextest_config_elements.specs.Fields.{Absent, by_backoff, elements, field, Fields, fields, fields_in, inherited, KeyRule, no_fields, Parts, parts_of}
use Rattle.nextest_config_elements.specs.Fields.{rule_of as rule_of_field}
use Rattle.nextest_config_elements.specs.Keys.{profile_fields}
use Rattle.nextest_config_elements.specs.declared.field.Field as declared
use Rattle.nextest_config_elements.specs.declared.field.Field.{out-Field}
use Rattle.nextest_config_elements.specs.declared.field.Shape.{Shape}
use Rattle.nextest_config_elements.specs.declared.field.Shape.TheVariants.{Table}
use Rattle.nextest_config_profiles.specs.Reach.{words_of}
use Rattle.nextest_config_profiles.specs.Said.{Path}
use Rattle.nextest_config_profiles.specs.declared.report.setting.OwnedSetting.{OwnedSetting}
use Rattle.nextest_config_profiles.specs.declared.report.setting.KnownSetting.{KnownSetting}

-- what fields say of their keys, in their order
abbrev pub rules_in : Fields → List KeyRule
rules_in no_fields = []
rules_in (field rule parts rest) = rule ∷ rules_in rest

-- the fields of a table, or of the tables in an array; of `retries` those without a backoff
abbrev pub fields_below : Parts → Fields
fields_below (fields known) = known
fields_below (by_backoff fixed exponential without) = without
fields_below (elements shape each) = fields_in each
fields_below other = no_fields

-- the fields of a value of this shape, if that is a plain table
abbrev pub table_fields : Shape → Parts → Fields
table_fields Table parts = fields_in parts
table_fields shape parts = no_fields

-- a setting: its path below a profile, what the table of keys says of its key, and of those that
-- its own table may have
pub record SettingRule : Type 0 where
  pub keys : Path
  pub rule : KeyRule
  pub members : List KeyRule

-- the setting at a path below a profile, as the table of keys has it
abbrev pub setting : Path → KeyRule → Parts → SettingRule
setting keys rule parts =
    record { keys = keys; rule = rule; members = rules_in (fields_below parts) }

-- a key of the table at a path below a profile is a setting, where this stands for it: the profile
-- inherits it, and of the profile itself nextest sets a value, too
abbrev pub is_setting : Path → Absent → Bool
is_setting above (inherited (Some value)) = true
is_setting [] (inherited None) = false
is_setting (key ∷ keys) (inherited None) = true
is_setting above other = false

-- the settings among the fields of the table at a path below a profile
abbrev pub settings_at : Path → Fields → List SettingRule
settings_at above no_fields = []
settings_at above (field rule parts rest) =
    if is_setting above rule.absent
    then setting (above ++ (rule.key ∷ [])) rule parts ∷ settings_at above rest
    else settings_at above rest

-- the settings in the tables that stand at keys of a profile
abbrev pub settings_below : Fields → List SettingRule
settings_below no_fields = []
settings_below (field rule parts rest) =
    settings_at (rule.key ∷ []) (table_fields rule.shape parts) ++ settings_below rest

-- the settings that are told: first those of a profile itself, then those in its tables
abbrev pub all_settings : List SettingRule
all_settings = settings_at [] profile_fields ++ settings_below profile_fields

-- ---- the code's table

-- what the code's table says of a key
abbrev pub member_of : declared.Field → KeyRule
member_of known = rule_of_field (out-Field known)

-- what stands in the value of a key, by the code's table
abbrev pub parts_in : declared.Field → Parts
parts_in known = parts_of (out-Field known).parts

-- a setting, by the code's table
abbrev pub rule_of : KnownSetting → SettingRule
rule_of held = setting (words_of held.keys.now) (member_of held.field.now) (parts_in held.field.now)

-- a setting that owns its path, by the code's table
abbrev pub rule_owned : OwnedSetting → SettingRule
rule_owned held =
    setting (words_of held.keys.items) (member_of held.field.now) (parts_in held.field.now)
