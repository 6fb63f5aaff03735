-- Where keys stand, as people are told.
use Rattle.std.specs.Prelude.{ℕ, Bool, true, false, if◌then◌else◌, List, [], ◌∷◌, ◌++◌, codes, flat_map, nat_eq}
use Rattle.std.specs.Cmp.Lexicographic.{pointwise}
use Rattle.std.specs.List.{join_by}
use Rattle.nextest_config_elements.specs.Keys.{file_fields}
use Rattle.nextest_config_lint.specs.Explain.KnownKey.{a_name, an_index, key, keys_among, KnownKey, TableStep}

-- how a step prints, which comes after another one or not
abbrev pub step_text : Bool → TableStep → List ℕ
step_text false (key text) = text
step_text true (key text) = codes "." ++ text
step_text behind a_name = codes ".NAME"
step_text behind an_index = codes "[N]"

-- how steps print, which come after others or not
abbrev pub steps_text : Bool → List TableStep → List ℕ
steps_text behind [] = []
steps_text behind (step ∷ rest) = step_text behind step ++ steps_text true rest

-- how a path prints
abbrev pub path_text : List TableStep → List ℕ
path_text = steps_text false

-- how the table to which steps lead prints
abbrev pub table_text : List TableStep → List ℕ
table_text [] = codes "the top of the file"
table_text (step ∷ rest) = path_text (step ∷ rest)

-- the table of a key, if the key has this name
abbrev pub table_if : List ℕ → KnownKey → List (List ℕ)
table_if name known =
    if pointwise nat_eq known.rule.key name then table_text known.table ∷ [] else []

-- the tables of a file that have a key of this name, in the order of the table of keys
abbrev pub places_text : List ℕ → List ℕ
places_text name =
    join_by (λ table. table) (codes ", ") (flat_map (table_if name) (keys_among file_fields []))
