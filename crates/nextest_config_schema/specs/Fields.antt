-- The schemas of tables, by the table of keys (JSON Schema, draft-07). Of the descriptions nothing
-- is said, but that each property has one.
use Rattle.std.specs.Prelude.{◌≡◌, ℕ, true, if◌then◌else◌, List, [], ◌∷◌, ◌++◌, codes, map}
use Rattle.serde_json.specs.Data.{Data, Members, no_members, put, string}
use Rattle.nextest_config_elements.specs.Fields.{by_backoff, elements, elements_or_fields, features, field, field_words, Fields, fields, KeyRule, names, no_fields, nothing, Parts, versions}
use Rattle.nextest_config_elements.specs.declared.field.Shape.{Shape}
use Rattle.nextest_config_elements.specs.declared.retry_policy.Backoff.TheVariants.{Exponential, Fixed}
use Rattle.nextest_config_schema.specs.Defaults.{default_data, with_default}
use Rattle.nextest_config_schema.specs.Kinds.{may_be_empty, schema_with}
use Rattle.nextest_config_schema.specs.SchemaPlace.{below, is_wanted}
use Rattle.nextest_config_schema.specs.Values.{array_schema, closed_table, having, names_schema, one_of, profiles_schema, with_required}
use Rattle.nextest_config_schema.specs.declared.schema_place.SchemaPlace.{SchemaPlace}
use Rattle.nextest_config_schema.specs.declared.schema_place.SchemaPlace.TheVariants.{DefaultProfile, Elsewhere, Profiles, Retries}

-- ---- the keys that a table has to have

-- the key, if a table that stands here has to have it
abbrev pub if_wanted : SchemaPlace → KeyRule → List (List ℕ)
if_wanted place rule = if is_wanted place rule then rule.key ∷ [] else []

-- the keys that a table with these fields has to have, if it stands here
abbrev pub wanted_keys : SchemaPlace → Fields → List (List ℕ)
wanted_keys place no_fields = []
wanted_keys place (field rule parts rest) = if_wanted place rule ++ wanted_keys place rest

-- ---- schemas, by what their parts are

-- schemas of tables and arrays of a shape, at a place
abbrev pub Kinds : Type 1
Kinds = SchemaPlace → Shape → List Data → Type 0

-- what properties become, where others are added
abbrev pub Adding : Type 1
Adding = SchemaPlace → Members → Members → Type 0

-- one schema
abbrev pub IsOne : (Data → Type 0) → List Data → Type 0
IsOne first kinds = (schema : Data) × first schema × (kinds ≡ schema ∷ [])

-- two schemas
abbrev pub AreTwo : (Data → Type 0) → (Data → Type 0) → List Data → Type 0
AreTwo first second kinds = (a : Data) × (b : Data) × first a × second b × (kinds ≡ a ∷ b ∷ [])

-- the schema of a value of a shape, with such schemas of tables and arrays
abbrev pub IsSchemaBy : Kinds → SchemaPlace → Shape → Data → Type 0
IsSchemaBy kinds_by place shape schema = (kinds : List Data) × kinds_by place shape kinds
    × (schema ≡ schema_with place shape kinds)

-- the schema of the value of a key, with some text that describes it
abbrev pub IsPropertyBy : Kinds → SchemaPlace → KeyRule → Data → Type 0
IsPropertyBy kinds_by place rule schema = let here = below place rule.key in
    (value : Data) × (text : List ℕ) × IsSchemaBy kinds_by here rule.shape value
    × (schema ≡ having (codes "description") (string text)
    (with_default (default_data here rule) value))

-- the schema of a table with the properties that are added, and no others
abbrev pub IsTableBy : Adding → SchemaPlace → Fields → Data → Type 0
IsTableBy adding place known schema = (properties : Members)
    × adding place no_members properties
    × (schema ≡ with_required (map string (wanted_keys place known)) (closed_table properties))

-- the schema of an array of a shape, with what its elements have to be
abbrev pub IsArrayBy : Kinds → Shape → Shape → Data → Type 0
IsArrayBy kinds_by shape each schema = (items : Data)
    × IsSchemaBy kinds_by Elsewhere each items
    × (schema ≡ array_schema (may_be_empty shape) items)

-- the schema of a table whose keys are names, with what their values have to be
abbrev pub IsNamesBy : Kinds → SchemaPlace → Shape → Data → Type 0
IsNamesBy kinds_by Profiles each schema = (default : Data) × (others : Data)
    × IsSchemaBy kinds_by DefaultProfile each default
    × IsSchemaBy kinds_by Elsewhere each others
    × (schema ≡ profiles_schema default others)
IsNamesBy kinds_by place each schema = (others : Data)
    × IsSchemaBy kinds_by Elsewhere each others × (schema ≡ names_schema others)

-- the properties, with that of a key, and others behind it
abbrev pub AddsBy : Kinds → KeyRule → Adding → Adding
AddsBy kinds_by rule adding place old new = (schema : Data)
    × IsPropertyBy kinds_by place rule schema × adding place (put rule.key schema old) new

-- ---- the table of keys

abbrev mutual
  -- the schemas of tables and arrays by what stands in them
  pub AreKinds : Parts → Kinds
  AreKinds nothing = λ place shape kinds. kinds ≡ []
  AreKinds (fields known) = λ place shape. IsOne (IsTableBy (AddsProperties known) place known)
  AreKinds (versions known) = λ place shape. IsOne (IsTableBy (AddsProperties known) place known)
  AreKinds (features known) = λ place shape.
      AreTwo (IsTableBy (AddsProperties known) place known)
      (λ names. names ≡ array_schema true (one_of (field_words known)))
  AreKinds (by_backoff fixed exponential without) = λ place shape.
      AreTwo (IsTableBy (AddsProperties fixed) (Retries Fixed) fixed)
      (IsTableBy (AddsProperties exponential) (Retries Exponential) exponential)
  AreKinds (names each parts) = λ place shape. IsOne (IsNamesBy (AreKinds parts) place each)
  AreKinds (elements each parts) = λ place shape.
      IsOne (IsArrayBy (AreKinds parts) shape each)
  AreKinds (elements_or_fields each known) = λ place shape.
      AreTwo (λ array. array ≡ array_schema (may_be_empty shape) (schema_with Elsewhere each []))
      (IsTableBy (AddsProperties known) place known)

  -- the properties, with those of fields
  pub AddsProperties : Fields → Adding
  AddsProperties no_fields = λ place old new. new ≡ old
  AddsProperties (field rule parts rest) = AddsBy (AreKinds parts) rule (AddsProperties rest)

-- the schema of a value of a shape, with what stands in it
abbrev pub IsSchema : SchemaPlace → Shape → Parts → Data → Type 0
IsSchema place shape parts = IsSchemaBy (AreKinds parts) place shape

-- the schema of the value of a key
abbrev pub IsProperty : SchemaPlace → KeyRule → Parts → Data → Type 0
IsProperty place rule parts = IsPropertyBy (AreKinds parts) place rule

-- the schema of a table with these fields
abbrev pub IsTable : SchemaPlace → Fields → Data → Type 0
IsTable place known = IsTableBy (AddsProperties known) place known

-- the schema of an array of a shape, with what its elements have to be
abbrev pub IsArray : Shape → Shape → Parts → Data → Type 0
IsArray shape each parts = IsArrayBy (AreKinds parts) shape each

-- the schema of a table whose keys are names, with what their values have to be
abbrev pub IsNames : SchemaPlace → Shape → Parts → Data → Type 0
IsNames place each parts = IsNamesBy (AreKinds parts) place each
