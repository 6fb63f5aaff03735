-- What stands for values of TOML in JSON.
use Rattle.std.specs.Prelude.{ℕ, List, codes, Float, is_nan, if◌then◌else◌}
use Rattle.std.specs.Float.{float_is_finite, is_sign_negative}
use Rattle.serde_json.specs.Data as json
use Rattle.serde_json.specs.Find.{of_integer}
use Rattle.toml.specs.Data.{Data, string, integer, float, boolean, datetime, array, table, Items, no_items, item, Members, no_members, member}
use Rattle.toml_datetime.specs.Text.{datetime_text}

-- a float that isn't finite, as TOML writes it (TOML 1.1, "Float")
abbrev pub nonfinite_text : Float → List ℕ
nonfinite_text number = if is_nan number then codes "nan"
    else if is_sign_negative number then codes "-inf"
    else codes "inf"

-- a float: a number, or its text where JSON has no number for it
abbrev pub float_data : Float → json.Data
float_data number = if float_is_finite number then json.number (json.float number)
    else json.string (nonfinite_text number)

-- a value in JSON (RFC 8259): an object for a table, with its members in their order, and a
-- date-time as its text
abbrev mutual
  pub json_data : Data → json.Data
  json_data (string text) = json.string text
  json_data (integer number) = json.number (of_integer number)
  json_data (float number) = float_data number
  json_data (boolean truth) = json.boolean truth
  json_data (datetime moment) = json.string (datetime_text moment)
  json_data (array items) = json.array (json_items items)
  json_data (table members) = json.object (json_members members)

  -- the items of an array in JSON, in their order
  pub json_items : Items → json.Items
  json_items no_items = json.no_items
  json_items (item value rest) = json.item (json_data value) (json_items rest)

  -- the members of a table in JSON, in their order
  pub json_members : Members → json.Members
  json_members no_members = json.no_members
  json_members (member key value rest) = json.member key (json_data value) (json_members rest)
