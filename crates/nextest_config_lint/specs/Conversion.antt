-- The values that nextest makes of others, by the crate `config`, before its readers see them.
use Rattle.std.specs.Prelude.{◌≡◌, ◌⊎◌, ◌||◌, ℕ, ℤ, Bool, List, [], ◌∷◌, codes, if◌then◌else◌, IsSome, IsTrue, nat_eq, Option, Some, None, option_and_then}
use Rattle.std.specs.Cmp.Lexicographic.{pointwise}
use Rattle.std.specs.Str.{str_eq_ignore_ascii_case}
use Rattle.toml.specs.Data.{as_bool, as_float, as_integer, as_str, Data}
use Rattle.nextest_config_elements.specs.Fields.{field, Fields, fields_in, KeyRule, no_fields, Parts}
use Rattle.nextest_config_elements.specs.Keys.{profile_fields}
use Rattle.nextest_config_elements.specs.MaxFail.{HasInteger}
use Rattle.nextest_config_elements.specs.declared.field.FaultSeverity.TheVariants.{ErrorUnlessConverted}
use Rattle.nextest_config_elements.specs.declared.field.Shape.{Shape}
use Rattle.nextest_config_elements.specs.declared.field.Shape.TheVariants as shapes

-- ---- what may be made of a value

-- the text is one of four words, whatever the case of its letters
abbrev pub is_one_of : List ℕ → List ℕ → List ℕ → List ℕ → List ℕ → Bool
is_one_of first second third last text =
    ((str_eq_ignore_ascii_case text first || str_eq_ignore_ascii_case text second)
    || str_eq_ignore_ascii_case text third)
    || str_eq_ignore_ascii_case text last

-- the text stands for true or for false
abbrev pub is_boolean_text : List ℕ → Bool
is_boolean_text text =
    is_one_of (codes "true") (codes "yes") (codes "on") (codes "1") text
    || is_one_of (codes "false") (codes "no") (codes "off") (codes "0") text

-- the text writes an integer of 64 bits
abbrev pub IsIntegerText : List ℕ → Type 0
IsIntegerText text = (number : ℤ) × HasInteger text number

-- there is a text, and this holds of it
abbrev pub IsTextThat : (List ℕ → Type 0) → Option (List ℕ) → Type 0
IsTextThat Is None = ⊥
IsTextThat Is (Some text) = Is text

-- a text may be made of the value
abbrev pub MayBecomeText : Data → Type 0
MayBecomeText value = (IsSome (as_bool value) ⊎ IsSome (as_integer value)) ⊎ IsSome (as_float value)

-- an integer may be made of the value
abbrev pub MayBecomeNumber : Data → Type 0
MayBecomeNumber value = (IsSome (as_bool value) ⊎ IsSome (as_float value))
    ⊎ IsTextThat IsIntegerText (as_str value)

-- a boolean may be made of the value
abbrev pub MayBecomeBoolean : Data → Type 0
MayBecomeBoolean value = IsSome (as_integer value)
    ⊎ IsTextThat (λ text. IsTrue (is_boolean_text text)) (as_str value)

-- what a shape wants may be made of the value
abbrev pub MayBecome : Shape → Data → Type 0
MayBecome shapes.Text value = MayBecomeText value
MayBecome shapes.Boolean value = MayBecomeBoolean value
MayBecome shapes.Count value = MayBecomeNumber value
MayBecome shapes.Priority value = MayBecomeNumber value
MayBecome shape value = ⊥

-- ---- at keys of a profile

-- the name is this word, byte by byte
abbrev pub is_word : List ℕ → List ℕ → Bool
is_word name word = pointwise nat_eq name word

-- the field with this key, with what stands in its value
abbrev pub field_named : List ℕ → Fields → Option (KeyRule × Parts)
field_named name no_fields = None
field_named name (field rule parts rest) =
    if is_word rule.key name then Some (rule, parts) else field_named name rest

-- the field at keys, one below the other, of a table with these fields
abbrev pub field_along : List (List ℕ) → Fields → Option (KeyRule × Parts)
field_along [] known = None
field_along (name ∷ []) known = field_named name known
field_along (name ∷ next ∷ rest) known = option_and_then
    (λ (found : KeyRule × Parts). field_along (next ∷ rest) (fields_in found.1))
    (field_named name known)

-- nextest converts the value of a field, and may make of this one what is wanted there
abbrev pub IsConvertedBy : KeyRule → Data → Type 0
IsConvertedBy rule value = (rule.severity ≡ ErrorUnlessConverted) × MayBecome rule.shape value

-- there is a field that nextest converts, and it may make of the value what is wanted there
abbrev pub IsConvertedIf : Option (KeyRule × Parts) → Data → Type 0
IsConvertedIf None value = ⊥
IsConvertedIf (Some (rule, parts)) value = IsConvertedBy rule value

-- nextest may make of the value at these keys of a profile what is wanted there
abbrev pub IsConvertedAt : List (List ℕ) → Data → Type 0
IsConvertedAt keys value = IsConvertedIf (field_along keys profile_fields) value
