-- Values, as TOML writes them on one line.
use Rattle.std.specs.Prelude.{◌≡◌, ℕ, List, [], ◌∷◌, ◌++◌, codes, if◌then◌else◌}
use Rattle.std.specs.Fmt.{signed_decimal}
use Rattle.toml.specs.Data.{Data, string, integer, float, boolean, datetime, array, table, Items, no_items, item, Members, no_members, member}
use Rattle.toml_datetime.specs.Text.{datetime_text}
use Rattle.toml_writer.specs.Text.{IsFloatText}
use Rattle.nextest_config_values.specs.Read.{comma_list}
use Rattle.nextest_config_values.specs.Literal.Key.{key_text}
use Rattle.nextest_config_values.specs.Literal.Text.{basic_text}

-- items between brackets (TOML 1.1, "Array")
abbrev pub array_text : List (List ℕ) → List ℕ
array_text texts = codes "[" ++ (comma_list texts ++ codes "]")

-- a key and its value (TOML 1.1, "Key/Value Pair")
abbrev pub member_text : List ℕ → List ℕ → List ℕ
member_text key value = key_text key ++ (codes " = " ++ value)

-- members between braces (TOML 1.1, "Inline Table")
abbrev pub table_text : List (List ℕ) → List ℕ
table_text [] = codes "{}"
table_text (text ∷ texts) = codes "{ " ++ (comma_list (text ∷ texts) ++ codes " }")

-- the text writes the value (TOML 1.1, "Integer", "Boolean" and "Offset Date-Time" to "Local Time",
-- and the sections named above): a float by a numeral that reads as that float, or by `inf`, `-inf`
-- or `nan` (TOML 1.1, "Float")
abbrev mutual
  pub IsLiteral : Data → List ℕ → Type 0
  IsLiteral (string value) text = text ≡ basic_text value
  IsLiteral (integer number) text = text ≡ signed_decimal number
  IsLiteral (float number) text = IsFloatText number text
  IsLiteral (boolean truth) text = text ≡ (if truth then codes "true" else codes "false")
  IsLiteral (datetime moment) text = text ≡ datetime_text moment
  IsLiteral (array items) text =
      (texts : List (List ℕ)) × AreItems items texts × (text ≡ array_text texts)
  IsLiteral (table members) text =
      (texts : List (List ℕ)) × AreMembers members texts × (text ≡ table_text texts)

  -- the texts write the items, one by one
  pub AreItems : Items → List (List ℕ) → Type 0
  AreItems no_items texts = texts ≡ []
  AreItems (item value rest) texts = (first : List ℕ) × (later : List (List ℕ))
      × (texts ≡ first ∷ later) × IsLiteral value first × AreItems rest later

  -- the texts write the members, one by one in their order
  pub AreMembers : Members → List (List ℕ) → Type 0
  AreMembers no_members texts = texts ≡ []
  AreMembers (member key value rest) texts = (first : List ℕ) × (later : List (List ℕ))
      × (texts ≡ member_text key first ∷ later) × IsLiteral value first × AreMembers rest later

-- for private clauses: the text writes the items, with commas between, as between brackets
abbrev pub AreItemsText : Items → List ℕ → Type 0
AreItemsText items text =
    (texts : List (List ℕ)) × AreItems items texts × (text ≡ comma_list texts)

-- for private clauses: the text writes the members, with commas between, as between braces
abbrev pub AreMembersText : Members → List ℕ → Type 0
AreMembersText members text =
    (texts : List (List ℕ)) × AreMembers members texts × (text ≡ comma_list texts)

-- for private clauses: the text writes a key and its value, as one member
abbrev pub IsMemberText : List ℕ → Data → List ℕ → Type 0
IsMemberText key value text =
    (literal : List ℕ) × IsLiteral value literal × (text ≡ member_text key literal)
