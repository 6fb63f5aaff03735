-- How deep the schema nests.
use Rattle.std.proofs.Common.{◌≡◌, ℕ, zero, suc, ◌+◌, ◌≤◌, max, Bool, true, false, List, [], ◌∷◌, ◌++◌, map, option_map, option_to_list, Option, Some, None, Ordering, Less, Equal, Greater, arith, lit≤, rules, subst, sym}
use Rattle.std.specs.Ordering.{match_ordering}
use Rattle.serde_json.specs.Data.{array, boolean, Data, depth, items_depth, member, Members, members_depth, no_members, null, number, object, put, string}
use Rattle.serde_json.specs.Read.{max_depth}
use Rattle.serde_json.specs.View.{items_of}
use Rattle.nextest_config_values.specs.Literal.Json.{json_data}
use Rattle.nextest_config_elements.specs.Fields.{Absent, by_backoff, elements, elements_or_fields, features, field, field_words, Fields, fields, inherited, KeyRule, names, no_fields, nothing, of_profile, Parts, taken, versions}
use Rattle.nextest_config_elements.specs.Keys.{file_fields}
use Rattle.nextest_config_elements.specs.declared.field.Shape.{Shape}
use Rattle.nextest_config_elements.specs.declared.retry_policy.Backoff.TheVariants.{Exponential, Fixed}
use Rattle.nextest_config_schema.specs.Defaults.{default_data, default_or_none, inherited_data, with_default}
use Rattle.nextest_config_schema.specs.Fields.{AddsProperties, AreKinds, IsArray, IsNames, IsProperty, IsSchema, IsTable, wanted_keys}
use Rattle.nextest_config_schema.specs.File.{IsFileSchema}
use Rattle.nextest_config_schema.specs.Kinds.{may_be_empty, plain_kind, schema_with, word_kind}
use Rattle.nextest_config_schema.specs.SchemaPlace.{below}
use Rattle.nextest_config_schema.specs.Values.{any_of, array_schema, closed_table, having, one_of, with_required}
use Rattle.nextest_config_schema.specs.declared.schema_place.SchemaPlace.{SchemaPlace}
use Rattle.nextest_config_schema.specs.declared.schema_place.SchemaPlace.TheVariants.{DefaultProfile, Elsewhere, File, Profiles, Retries}
use Rattle.toml.specs.Data as toml

-- ---- values

depth_of_ordered : (o : Ordering) (a b c : Members) (n : ℕ) → members_depth a ≤ n → members_depth b ≤ n → members_depth c ≤ n → members_depth (match_ordering o a b c) ≤ n
depth_of_ordered Less a b c n p q r = p
depth_of_ordered Equal a b c n p q r = q
depth_of_ordered Greater a b c n p q r = r

depth_of_put : (k : List ℕ) (d : Data) (ms : Members) (n : ℕ) → depth d ≤ n → members_depth ms ≤ n → members_depth (put k d ms) ≤ n
depth_of_put k d no_members n p q = omega arith
depth_of_put k d (member l e ms) n p q =
    depth_of_ordered _ (member k d (member l e ms)) (member l d ms) (member l e (put k d ms)) n (omega arith) (omega arith) (omega (arith, depth_of_put k d ms n p (omega arith)))

depth_of_having : (key : List ℕ) (value schema : Data) (n : ℕ) → suc (depth value) ≤ n → depth schema ≤ n → depth (having key value schema) ≤ n
depth_of_having key value (object ms) zero p q = absurd (omega arith)
depth_of_having key value (object ms) (suc n) p q = omega (arith, depth_of_put key value ms n (omega arith) (omega arith))
depth_of_having key value null n p q = q
depth_of_having key value (boolean b) n p q = q
depth_of_having key value (number x) n p q = q
depth_of_having key value (string s) n p q = q
depth_of_having key value (array ds) n p q = q

depth_of_both : (xs ys : List Data) (n : ℕ) → items_depth (items_of xs) ≤ n → items_depth (items_of ys) ≤ n → items_depth (items_of (xs ++ ys)) ≤ n
depth_of_both [] ys n p q = q
depth_of_both (x ∷ xs) ys n p q = omega (arith, depth_of_both xs ys n (omega arith) q)

depth_of_texts : (words : List (List ℕ)) → items_depth (items_of (map string words)) ≤ 0
depth_of_texts [] = omega arith
depth_of_texts (word ∷ words) = omega (arith, depth_of_texts words)

depth_of_words : (words : List (List ℕ)) → items_depth (items_of (option_to_list (Some (one_of words)))) ≤ 2
depth_of_words words = omega (arith, depth_of_texts words)

depth_of_any : (kinds : List Data) (n : ℕ) → items_depth (items_of kinds) ≤ n → depth (any_of kinds) ≤ 2 + n
depth_of_any [] n p = omega arith
depth_of_any (kind ∷ []) n p = omega arith
depth_of_any (kind ∷ next ∷ kinds) n p = omega arith

depth_of_plain : (shape : Shape) → items_depth (items_of (option_to_list (plain_kind shape))) ≤ 2
depth_of_plain shape = search rules

depth_of_word : (place : SchemaPlace) (shape : Shape) → items_depth (items_of (option_to_list (word_kind place shape))) ≤ 2
depth_of_word place shape = search (rules, depth_of_words)

depth_of_schema : (place : SchemaPlace) (shape : Shape) (kinds : List Data) (n : ℕ) → items_depth (items_of kinds) ≤ n → depth (schema_with place shape kinds) ≤ 4 + n
depth_of_schema place shape kinds n p =
    let own = depth_of_both (option_to_list (plain_kind shape)) (option_to_list (word_kind place shape)) (2 + n) (omega (arith, depth_of_plain shape)) (omega (arith, depth_of_word place shape)) in
    omega (arith, depth_of_any _ (2 + n) (depth_of_both _ kinds (2 + n) own (omega arith)))

depth_of_array : (may_be_empty : Bool) (items : Data) → depth (array_schema may_be_empty items) ≤ suc (depth items)
depth_of_array true items = omega arith
depth_of_array false items = omega arith

depth_of_required : (words : List (List ℕ)) (schema : Data) (n : ℕ) → 2 ≤ n → depth schema ≤ n → depth (with_required (map string words) schema) ≤ n
depth_of_required [] schema n two p = p
depth_of_required (word ∷ words) schema n two p = depth_of_having _ _ schema n (omega (arith, depth_of_texts words)) p

-- ---- defaults

abbrev optional_depth : Option Data → ℕ
optional_depth (Some value) = depth value
optional_depth None = 0

abbrev absent_depth : Absent → ℕ
absent_depth (taken value) = optional_depth (option_map json_data value)
absent_depth (inherited value) = optional_depth (option_map json_data value)
absent_depth of_profile = 0

depth_of_inherited : (place : SchemaPlace) (value : Option toml.Data) → optional_depth (inherited_data place value) ≤ optional_depth (option_map json_data value)
depth_of_inherited DefaultProfile value = omega arith
depth_of_inherited File value = omega arith
depth_of_inherited Profiles value = omega arith
depth_of_inherited (Retries backoff) value = omega arith
depth_of_inherited Elsewhere value = omega arith

depth_of_default : (place : SchemaPlace) (absent : Absent) (required : Bool) → optional_depth (default_or_none place absent required) ≤ absent_depth absent
depth_of_default place absent true = omega arith
depth_of_default place (taken value) false = omega arith
depth_of_default place (inherited value) false = depth_of_inherited place value
depth_of_default place of_profile false = omega arith

depth_of_with_default : (default : Option Data) (schema : Data) (n : ℕ) → suc (optional_depth default) ≤ n → depth schema ≤ n → depth (with_default default schema) ≤ n
depth_of_with_default (Some value) schema n p q = depth_of_having _ value schema n p q
depth_of_with_default None schema n p q = q

-- ---- the table of keys

abbrev mutual
  -- how deep schemas of tables and arrays nest, at most
  levels : Parts → ℕ
  levels nothing = 0
  levels (fields known) = 2 + levels_of known
  levels (versions known) = 2 + levels_of known
  levels (features known) = 3 + levels_of known
  levels (by_backoff fixed exponential without) = 2 + max (levels_of fixed) (levels_of exponential)
  levels (names each parts) = 6 + levels parts
  levels (elements each parts) = 5 + levels parts
  levels (elements_or_fields each known) = 5 + levels_of known

  -- how deep schemas of the values of keys nest, at most
  levels_of : Fields → ℕ
  levels_of no_fields = 0
  levels_of (field rule parts rest) = max (4 + (levels parts + absent_depth rule.absent)) (levels_of rest)

-- what is said of the kinds that are made of these parts
abbrev Bounds : Parts → Type 0
Bounds parts = (place : SchemaPlace) (shape : Shape) (kinds : List Data) → AreKinds parts place shape kinds → items_depth (items_of kinds) ≤ levels parts

-- what is said of properties with those of these fields
abbrev BoundsAdded : Fields → Type 0
BoundsAdded known = (place : SchemaPlace) (old new : Members) (n : ℕ) → members_depth old ≤ n → levels_of known ≤ n → AddsProperties known place old new → members_depth new ≤ n

depth_along : (schema same : Data) (n : ℕ) → schema ≡ same → depth same ≤ n → depth schema ≤ n
depth_along schema same n is p = let P : Data → Type 0 = λ d. depth d ≤ n in subst P (sym is) p

depth_of_one : (kinds : List Data) (a : Data) (n : ℕ) → kinds ≡ a ∷ [] → depth a ≤ n → items_depth (items_of kinds) ≤ n
depth_of_one kinds a n is p = let P : List Data → Type 0 = λ ks. items_depth (items_of ks) ≤ n in subst P (sym is) (omega arith)

depth_of_two : (kinds : List Data) (a b : Data) (n : ℕ) → kinds ≡ a ∷ b ∷ [] → depth a ≤ n → depth b ≤ n → items_depth (items_of kinds) ≤ n
depth_of_two kinds a b n is p q = let P : List Data → Type 0 = λ ks. items_depth (items_of ks) ≤ n in subst P (sym is) (omega arith)

depth_of_value : (parts : Parts) → Bounds parts → (place : SchemaPlace) (shape : Shape) (schema : Data) → IsSchema place shape parts schema → depth schema ≤ 4 + levels parts
depth_of_value parts bounds place shape schema (kinds, are, is) = depth_along schema _ _ is (depth_of_schema place shape kinds (levels parts) (bounds place shape kinds are))

depth_of_property : (rule : KeyRule) (parts : Parts) → Bounds parts → (place : SchemaPlace) (schema : Data) → IsProperty place rule parts schema → depth schema ≤ 4 + (levels parts + absent_depth rule.absent)
depth_of_property rule parts bounds place schema (value, text, of_value, is) =
    let n = 4 + (levels parts + absent_depth rule.absent) in
    let own = depth_of_value parts bounds _ rule.shape value of_value in
    let stands = depth_of_default (below place rule.key) rule.absent rule.required in
    depth_along schema _ n is (depth_of_having _ (string text) _ n (omega arith) (depth_of_with_default (default_data (below place rule.key) rule) value n (omega (arith, stands)) (omega (arith, own))))

depth_of_table : (known : Fields) → BoundsAdded known → (place : SchemaPlace) (schema : Data) → IsTable place known schema → depth schema ≤ 2 + levels_of known
depth_of_table known bounds place schema (properties, adds, is) =
    let added = bounds place no_members properties (levels_of known) (omega arith) (omega arith) adds in
    depth_along schema _ _ is (depth_of_required (wanted_keys place known) (closed_table properties) _ (omega arith) (omega (arith, added)))

depth_of_names : (parts : Parts) → Bounds parts → (place : SchemaPlace) (each : Shape) (schema : Data) → IsNames place each parts schema → depth schema ≤ 6 + levels parts
depth_of_names parts bounds Profiles each schema (default, others, default_is, others_is, is) =
    let a = depth_of_value parts bounds DefaultProfile each default default_is in
    let b = depth_of_value parts bounds Elsewhere each others others_is in
    depth_along schema _ _ is (omega (arith, a, b))
depth_of_names parts bounds File each schema (others, others_is, is) = depth_along schema _ _ is (omega (arith, depth_of_value parts bounds Elsewhere each others others_is))
depth_of_names parts bounds DefaultProfile each schema (others, others_is, is) = depth_along schema _ _ is (omega (arith, depth_of_value parts bounds Elsewhere each others others_is))
depth_of_names parts bounds (Retries backoff) each schema (others, others_is, is) = depth_along schema _ _ is (omega (arith, depth_of_value parts bounds Elsewhere each others others_is))
depth_of_names parts bounds Elsewhere each schema (others, others_is, is) = depth_along schema _ _ is (omega (arith, depth_of_value parts bounds Elsewhere each others others_is))

depth_of_list : (parts : Parts) → Bounds parts → (shape each : Shape) (schema : Data) → IsArray shape each parts schema → depth schema ≤ 5 + levels parts
depth_of_list parts bounds shape each schema (items, items_is, is) =
    depth_along schema _ _ is (omega (arith, depth_of_array (may_be_empty shape) items, depth_of_value parts bounds Elsewhere each items items_is))

mutual
  depth_of_kinds : (parts : Parts) → Bounds parts
  depth_of_kinds nothing place shape kinds is = let P : List Data → Type 0 = λ ks. items_depth (items_of ks) ≤ 0 in subst P (sym is) (lit≤ tt)
  depth_of_kinds (fields known) place shape kinds (table, is, all) = depth_of_one kinds table _ all (depth_of_table known (depth_of_added known) place table is)
  depth_of_kinds (versions known) place shape kinds (table, is, all) = depth_of_one kinds table _ all (depth_of_table known (depth_of_added known) place table is)
  depth_of_kinds (features known) place shape kinds (table, list, is, list_is, all) =
      let words = one_of (field_words known) in
      let inside = depth_along list _ 3 list_is (omega (arith, depth_of_array true words, depth_of_words (field_words known))) in
      depth_of_two kinds table list _ all (omega (arith, depth_of_table known (depth_of_added known) place table is)) (omega (arith, inside))
  depth_of_kinds (by_backoff fixed exponential without) place shape kinds (first, second, first_is, second_is, all) =
      depth_of_two kinds first second _ all (omega (arith, depth_of_table fixed (depth_of_added fixed) (Retries Fixed) first first_is))
      (omega (arith, depth_of_table exponential (depth_of_added exponential) (Retries Exponential) second second_is))
  depth_of_kinds (names each parts) place shape kinds (table, is, all) = depth_of_one kinds table _ all (depth_of_names parts (depth_of_kinds parts) place each table is)
  depth_of_kinds (elements each parts) place shape kinds (list, is, all) = depth_of_one kinds list _ all (depth_of_list parts (depth_of_kinds parts) shape each list is)
  depth_of_kinds (elements_or_fields each known) place shape kinds (list, table, list_is, is, all) =
      let plain = depth_of_schema Elsewhere each [] 0 (lit≤ tt) in
      let inside = depth_along list _ 5 list_is (omega (arith, depth_of_array (may_be_empty shape) (schema_with Elsewhere each []), plain)) in
      depth_of_two kinds list table _ all (omega (arith, inside)) (omega (arith, depth_of_table known (depth_of_added known) place table is))

  depth_of_added : (known : Fields) → BoundsAdded known
  depth_of_added no_fields place old new n p q is = let P : Members → Type 0 = λ ms. members_depth ms ≤ n in subst P (sym is) p
  depth_of_added (field rule parts rest) place old new n p q (schema, is, adds) =
      let first = depth_of_property rule parts (depth_of_kinds parts) place schema is in
      depth_of_added rest place (put rule.key schema old) new n (depth_of_put rule.key schema old n (omega (arith, first)) p) (omega arith) adds

-- the schema of a file nests no deeper than `serde_json` reads
pub file_depth : (schema : Data) → IsFileSchema schema → depth schema ≤ max_depth
file_depth schema (table, is, same) =
    let known = depth_of_table file_fields (depth_of_added file_fields) File table is in
    let shallow : 2 + levels_of file_fields ≤ max_depth = lit≤ tt in
    let table_fits : depth table ≤ max_depth = omega (arith, known, shallow) in
    depth_along schema _ max_depth same (depth_of_having _ _ _ max_depth (lit≤ tt) (depth_of_having _ _ _ max_depth (lit≤ tt) (depth_of_having _ _ table max_depth (lit≤ tt) table_fits)))
