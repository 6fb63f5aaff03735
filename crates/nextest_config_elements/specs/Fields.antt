-- The keys that are known in a table, as plain data: what the value of each has to be, and what
-- stands in that.
use Rattle.std.specs.Prelude.{ℕ, Bool, true, false, List, [], ◌∷◌, map, Option, Some, None}
use Rattle.toml.specs.Data.{array, boolean, Data, integer, no_items, string}
use Rattle.nextest_config_elements.specs.declared.field.Absent.{Absent as declared_absent}
use Rattle.nextest_config_elements.specs.declared.field.Absent.TheVariants as absents
use Rattle.nextest_config_elements.specs.declared.field.FaultSeverity.{FaultSeverity}
use Rattle.nextest_config_elements.specs.declared.field.FaultSeverity.TheVariants.{Error, ErrorUnlessConverted, Warning}
use Rattle.nextest_config_elements.specs.declared.field.Field as declared_field
use Rattle.nextest_config_elements.specs.declared.field.Field.{fold-Field}
use Rattle.nextest_config_elements.specs.declared.field.Literal.{Literal}
use Rattle.nextest_config_elements.specs.declared.field.Literal.TheVariants as literals
use Rattle.nextest_config_elements.specs.declared.field.Parts as declared_parts
use Rattle.nextest_config_elements.specs.declared.field.Parts.{fold-Parts}
use Rattle.nextest_config_elements.specs.declared.field.Parts.TheOpen.{Field-F, Parts-F}
use Rattle.nextest_config_elements.specs.declared.field.Shape.{Shape}

-- what stands for a key that is absent: its default, if it has one, which the reader of its table
-- takes; what the profile inherits, or else this value, if any, which nextest sets itself; or, in
-- an override, what its profile has
pub data Absent : Type 0 where
  taken : Option Data → Absent
  inherited : Option Data → Absent
  of_profile : Absent

-- a key without a default
abbrev pub no_default : Absent
no_default = taken None

-- a default that is a text
abbrev pub default_text : List ℕ → Absent
default_text text = taken (Some (string text))

-- nextest sets this text itself, where no profile that counts has the key
abbrev pub inherited_text : List ℕ → Absent
inherited_text text = inherited (Some (string text))

-- a key: what its value has to be, but for what stands in it; how grave a fault of that is; whether
-- a table has to have the key; and what stands for it where it is absent
pub record KeyRule : Type 0 where
  pub key : List ℕ
  pub shape : Shape
  pub severity : FaultSeverity
  pub required : Bool
  pub absent : Absent

-- the rule of a key that a table has to have, or may have
abbrev pub key_rule : Bool → List ℕ → Shape → FaultSeverity → Absent → KeyRule
key_rule required key shape severity absent = record {
  key = key;
  shape = shape;
  severity = severity;
  required = required;
  absent = absent;
}

-- a key that a table may have, for which this stands where it is absent
abbrev pub allowed_or : List ℕ → Shape → FaultSeverity → Absent → KeyRule
allowed_or = key_rule false

-- a key that a table may have, for which nothing stands where it is absent
abbrev pub allowed : List ℕ → Shape → FaultSeverity → KeyRule
allowed key shape severity = allowed_or key shape severity no_default

-- a key that a table has to have; where a value of another kind stands in the place of the table,
-- this stands for it
abbrev pub needed_or : List ℕ → Shape → FaultSeverity → Absent → KeyRule
needed_or = key_rule true

-- a key that a table has to have
abbrev pub needed : List ℕ → Shape → FaultSeverity → KeyRule
needed key shape severity = needed_or key shape severity no_default

-- how grave a fault is in a value whose own faults are as grave as the outer one: in what is known
-- from nextest's documentation alone, nothing is graver than that
abbrev pub within : FaultSeverity → FaultSeverity → FaultSeverity
within Warning severity = Warning
within Error severity = severity
within ErrorUnlessConverted severity = severity

mutual
  -- what stands in a value has to be: nothing is said; the fields of a table; those of
  -- `nextest-version`; those of `experimental`, or the texts of its array; those of `retries`, with
  -- a fixed backoff, an exponential one, and none; what each key of a table leads to, as a name;
  -- each element of an array; or each element of an array, or the fields of a table
  pub data Parts : Type 0 where
    nothing : Parts
    fields : Fields → Parts
    versions : Fields → Parts
    features : Fields → Parts
    by_backoff : Fields → Fields → Fields → Parts
    names : Shape → Parts → Parts
    elements : Shape → Parts → Parts
    elements_or_fields : Shape → Fields → Parts

  -- the fields of a table, in their order: keys, each with what stands in its value
  pub data Fields : Type 0 where
    no_fields : Fields
    field : KeyRule → Parts → Fields → Fields

-- a key in whose value nothing stands that is judged by itself, put before others
abbrev pub plain : KeyRule → Fields → Fields
plain rule rest = field rule nothing rest

-- the keys of fields, in their order
abbrev pub field_words : Fields → List (List ℕ)
field_words no_fields = []
field_words (field rule parts rest) = rule.key ∷ field_words rest

-- the fields of a plain table; none of anything else
abbrev pub fields_in : Parts → Fields
fields_in (fields known) = known
fields_in parts = no_fields

-- ---- what the code's values say

-- a value, if there is one
abbrev pub literal_of : Literal → Option Data
literal_of literals.Nothing = None
literal_of (literals.Boolean truth) = Some (boolean truth)
literal_of (literals.Integer number) = Some (integer number)
literal_of (literals.Text text) = Some (string text.now)
literal_of literals.EmptyArray = Some (array no_items)

-- what stands for a key that is absent
abbrev pub absent_of : declared_absent → Absent
absent_of (absents.Taken literal) = taken (literal_of literal)
absent_of (absents.Inherited literal) = inherited (literal_of literal)
absent_of absents.OfProfile = of_profile

-- fields, each of which is put before those behind it
abbrev pub fields_of : List (Fields → Fields) → Fields
fields_of [] = no_fields
fields_of (first ∷ rest) = first (fields_of rest)

-- what a field says of its key
abbrev pub rule_of : {P F : Type 0} → Field-F P F → KeyRule
rule_of known = record {
  key = known.key.now;
  shape = known.shape;
  severity = known.severity;
  required = known.required;
  absent = absent_of known.absent;
}

-- one level of a field, put before others
abbrev pub level_of_field : Field-F Parts (Fields → Fields) → Fields → Fields
level_of_field known rest = field (rule_of known) known.parts rest

-- one level of what stands in a value
abbrev pub level_of_parts : Parts-F Parts (Fields → Fields) → Parts
level_of_parts Parts-F.Nothing = nothing
level_of_parts (Parts-F.Fields known) = fields (fields_of known.now)
level_of_parts (Parts-F.Versions known) = versions (fields_of known.now)
level_of_parts (Parts-F.Features known) = features (fields_of known.now)
level_of_parts (Parts-F.Retries fixed exponential without) =
    by_backoff (fields_of fixed.now) (fields_of exponential.now) (fields_of without.now)
level_of_parts (Parts-F.Names shape each) = names shape each.now
level_of_parts (Parts-F.Elements shape each) = elements shape each.now
level_of_parts (Parts-F.ElementsOrFields shape known) =
    elements_or_fields shape (fields_of known.now)

-- a field, as the code says it, put before others
abbrev pub field_before : declared_field.Field → Fields → Fields
field_before = fold-Field Parts (Fields → Fields) level_of_parts level_of_field

-- what stands in a value, as the code says it
abbrev pub parts_of : declared_parts.Parts → Parts
parts_of = fold-Parts Parts (Fields → Fields) level_of_parts level_of_field

-- fields, as the code says them
abbrev pub fields_view : List declared_field.Field → Fields
fields_view known = fields_of (map field_before known)
