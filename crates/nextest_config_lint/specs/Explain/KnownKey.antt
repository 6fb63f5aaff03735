-- All keys of the table of keys, each with the table of a file in which it stands.
use Rattle.std.specs.Prelude.{ℕ, Bool, true, false, List, [], ◌∷◌, ◌++◌, map}
use Rattle.nextest_config_elements.specs.Fields.{by_backoff, elements, elements_or_fields, features, field, Fields, fields, KeyRule, names, no_fields, nothing, Parts, versions}
use Rattle.nextest_config_lint.specs.Settings.{seen_field}
use Rattle.nextest_config_lint.specs.declared.explain.known_key.KnownKey.{KnownKey as declared_key}
use Rattle.nextest_config_lint.specs.declared.explain.known_key.TableStep.{TableStep as declared_step}
use Rattle.nextest_config_lint.specs.declared.explain.known_key.TableStep.TheVariants as steps

-- a step to a table: a key, a name that users choose, or an index
pub data TableStep : Type 0 where
  key : List ℕ → TableStep
  a_name : TableStep
  an_index : TableStep

-- a key, what stands in its value, and the steps to the table in which it stands
pub record KnownKey : Type 0 where
  pub table : List TableStep
  pub rule : KeyRule
  pub parts : Parts

-- the path of a key
abbrev pub path_of : KnownKey → List TableStep
path_of known = known.table ++ (key known.rule.key ∷ [])

-- the value may be an array whose elements are judged
abbrev pub has_elements : Parts → Bool
has_elements (features known) = true
has_elements (elements shape each) = true
has_elements (elements_or_fields shape known) = true
has_elements parts = false

-- an index, if there is one
abbrev pub index_if : Bool → List TableStep
index_if true = an_index ∷ []
index_if false = []

-- the steps to a key, and into an element of its value, which counts as the key
abbrev pub steps_to : KnownKey → List TableStep
steps_to known = path_of known ++ index_if (has_elements known.parts)

-- ---- the table of keys

abbrev mutual
  -- the keys that stand in a value, to which these steps lead
  pub keys_within : Parts → List TableStep → List KnownKey
  keys_within nothing = λ path. []
  keys_within (fields known) = keys_among known
  keys_within (versions known) = keys_among known
  keys_within (features known) = keys_among known
  keys_within (by_backoff fixed exponential either) = keys_among either
  keys_within (names shape each) = λ path. keys_within each (path ++ (a_name ∷ []))
  keys_within (elements shape each) = λ path. keys_within each (path ++ (an_index ∷ []))
  keys_within (elements_or_fields shape known) = keys_among known

  -- the keys of a table, to which these steps lead: each before those that stand in its value
  pub keys_among : Fields → List TableStep → List KnownKey
  keys_among no_fields = λ table. []
  keys_among (field rule parts rest) = λ table.
      record { table = table; rule = rule; parts = parts }
      ∷ (keys_within parts (table ++ (key rule.key ∷ [])) ++ keys_among rest table)

-- ---- as they are kept

-- the step that is kept
abbrev pub table_step : declared_step → TableStep
table_step (steps.Key text) = key text.now
table_step steps.Name = a_name
table_step steps.Index = an_index

-- the key that is kept
abbrev pub known_key : declared_key → KnownKey
known_key known = record {
  table = map table_step known.table.items;
  rule = (seen_field known.field.now).0;
  parts = (seen_field known.field.now).1;
}

-- for private clauses: the key of a field in the table to which these steps lead, and those that
-- stand in its value
abbrev pub keys_at : KeyRule × Parts → List TableStep → List KnownKey
keys_at (rule, parts) table =
    record { table = table; rule = rule; parts = parts }
    ∷ keys_within parts (table ++ (key rule.key ∷ []))
