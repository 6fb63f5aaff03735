-- What stands for a key that is absent.
use Rattle.std.specs.Prelude.{Bool, true, false, codes, Option, Some, None, option_map}
use Rattle.serde_json.specs.Data.{Data}
use Rattle.toml.specs.Data as toml
use Rattle.nextest_config_values.specs.Literal.Json.{json_data}
use Rattle.nextest_config_elements.specs.Fields.{Absent, inherited, KeyRule, of_profile, taken}
use Rattle.nextest_config_schema.specs.Values.{having}
use Rattle.nextest_config_schema.specs.declared.schema_place.SchemaPlace.{SchemaPlace}
use Rattle.nextest_config_schema.specs.declared.schema_place.SchemaPlace.TheVariants.{DefaultProfile}

-- what a place inherits from nextest itself: the profile `default` alone, since for another profile
-- that one may say otherwise
abbrev pub inherited_data : SchemaPlace → Option toml.Data → Option Data
inherited_data DefaultProfile value = option_map json_data value
inherited_data place value = None

-- what stands for an absent key at a place, as JSON has it, if that is a value
abbrev pub absent_data : SchemaPlace → Absent → Option Data
absent_data place (taken value) = option_map json_data value
absent_data place (inherited value) = inherited_data place value
absent_data place of_profile = None

-- what stands for a key at a place where it is absent; nothing, where it may not be
abbrev pub default_or_none : SchemaPlace → Absent → Bool → Option Data
default_or_none place absent true = None
default_or_none place absent false = absent_data place absent

-- what stands for a key at a place where it is absent, if that is a value
abbrev pub default_data : SchemaPlace → KeyRule → Option Data
default_data place rule = default_or_none place rule.absent rule.required

-- the schema of a key's value, with what stands for it where it is absent
abbrev pub with_default : Option Data → Data → Data
with_default (Some value) schema = having (codes "default") value schema
with_default None schema = schema
