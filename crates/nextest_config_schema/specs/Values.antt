-- Schemas of values in which nothing stands that a schema speaks of, and how schemas are joined
-- (JSON Schema, draft-07).
use Rattle.std.specs.Prelude.{ℕ, ℤ, pos, Bool, true, false, List, [], ◌∷◌, codes, map}
use Rattle.serde_json.specs.Data.{array, boolean, Data, member, Members, no_members, number, object, put, string, unsigned}
use Rattle.serde_json.specs.Find.{of_integer}
use Rattle.serde_json.specs.View.{items_of}

-- an array of JSON
abbrev pub array_of : List Data → Data
array_of values = array (items_of values)

-- a schema, with a member more
abbrev pub having : List ℕ → Data → Data → Data
having key value (object members) = object (put key value members)
having key value schema = schema

-- any value
abbrev pub anything : Data
anything = object no_members

-- the members of a schema that says no more than the type
abbrev pub type_only : List ℕ → Members
type_only name = member (codes "type") (string name) no_members

-- a value of this type
abbrev pub of_type : List ℕ → Data
of_type name = object (type_only name)

-- a text, a boolean or a number
abbrev pub scalar : Data
scalar = object (member (codes "type")
    (array_of (map string (codes "boolean" ∷ codes "number" ∷ codes "string" ∷ []))) no_members)

-- a text that a regular expression matches
abbrev pub matching : List ℕ → Data
matching pattern = object (member (codes "pattern") (string pattern) (type_only (codes "string")))

-- a text that isn't empty
abbrev pub some_text : Data
some_text =
    object (member (codes "minLength") (number (unsigned 1)) (type_only (codes "string")))

-- an integer from this one on
abbrev pub at_least : ℤ → Data
at_least least = object
    (member (codes "minimum") (number (of_integer least)) (type_only (codes "integer")))

-- an integer from the one to the other
abbrev pub between : ℤ → ℤ → Data
between least greatest = object
    (member (codes "maximum") (number (of_integer greatest))
    (member (codes "minimum") (number (of_integer least)) (type_only (codes "integer"))))

-- an integer other than 0
abbrev pub nonzero : Data
nonzero = object
    (member (codes "not") (object (member (codes "const") (number (of_integer (pos 0))) no_members))
    (type_only (codes "integer")))

-- one of these values
abbrev pub enum_of : List Data → Data
enum_of values = object (member (codes "enum") (array_of values) no_members)

-- one of these words
abbrev pub one_of : List (List ℕ) → Data
one_of words = enum_of (map string words)

-- an array, each element of which meets a schema; one that has elements, where it may not be empty
abbrev pub array_schema : Bool → Data → Data
array_schema true items = object (member (codes "items") items (type_only (codes "array")))
array_schema false items = object
    (member (codes "items") items
    (member (codes "minItems") (number (unsigned 1)) (type_only (codes "array"))))

-- a table with these properties and no others
abbrev pub closed_table : Members → Data
closed_table properties = object
    (member (codes "additionalProperties") (boolean false)
    (member (codes "properties") (object properties) (type_only (codes "object"))))

-- a table that needs these keys, if there are some
abbrev pub with_required : List Data → Data → Data
with_required [] schema = schema
with_required (key ∷ keys) schema = having (codes "required") (array_of (key ∷ keys)) schema

-- a table whose keys are names, with the schema of the values
abbrev pub names_schema : Data → Data
names_schema others =
    object (member (codes "additionalProperties") others (type_only (codes "object")))

-- a table of profiles, with the schemas of `default` and of the others
abbrev pub profiles_schema : Data → Data → Data
profiles_schema default others = object
    (member (codes "additionalProperties") others
    (member (codes "properties") (object (member (codes "default") default no_members))
    (type_only (codes "object"))))

-- a value that meets one of some schemas, at least
abbrev pub any_of : List Data → Data
any_of [] = anything
any_of (schema ∷ []) = schema
any_of (schema ∷ next ∷ schemas) =
    object (member (codes "anyOf") (array_of (schema ∷ next ∷ schemas)) no_members)
