-- The paths of keys, as findings print them.
use Rattle.std.specs.Prelude.{ℕ, ◌==◌, ◌&&◌, ◌||◌, Bool, true, false, not, if◌then◌else◌, List, [], ◌∷◌, ◌++◌, drop, find, length, nat_eq, Option, option_map}
use Rattle.std.specs.Char.{is_ascii_digit}
use Rattle.std.specs.Cmp.Lexicographic.{pointwise}
use Rattle.std.specs.List.{slice_split}
use Rattle.std.specs.Option.{option_or}
use Rattle.toml_spans.specs.Characters.{backslash, dot, double_quote}
use Rattle.nextest_config_elements.specs.Fields.{KeyRule}
use Rattle.nextest_config_elements.specs.Keys.{file_fields, profile_fields}
use Rattle.nextest_config_lint.specs.Explain.KnownKey.{a_name, an_index, key, keys_among, KnownKey, steps_to, TableStep}
use Rattle.nextest_config_lint.specs.declared.explain.key_path.Quoting.{Quoting}
use Rattle.nextest_config_lint.specs.declared.explain.key_path.Quoting.TheVariants.{Basic, Escaped, Literal, Outside}

-- the byte `'`
abbrev pub single_quote : ℕ
single_quote = 39

-- the byte `[`
abbrev pub opening_bracket : ℕ
opening_bracket = 91

-- the byte `]`
abbrev pub closing_bracket : ℕ
closing_bracket = 93

-- the byte `N`
abbrev pub letter_n : ℕ
letter_n = 78

-- ---- the pieces of a path

-- where the byte behind this one stands: outside of quotes, in a text between single quotes or
-- between double ones, or behind a backslash in the latter (TOML 1.1, "String")
abbrev pub after : Quoting → ℕ → Quoting
after Outside b =
    if b == single_quote then Literal else (if b == double_quote then Basic else Outside)
after Literal b = if b == single_quote then Outside else Literal
after Basic b = if b == double_quote then Outside else (if b == backslash then Escaped else Basic)
after Escaped b = Basic

-- a byte outside of quotes; a dot comes before the bracket that opens an index
abbrev pub with_dot : ℕ → List ℕ
with_dot b = if b == opening_bracket then dot ∷ b ∷ [] else b ∷ []

-- the byte, if it stands outside of quotes
abbrev pub if_outside : Quoting → ℕ → List ℕ
if_outside Outside b = with_dot b
if_outside quoting b = []

-- what stands outside of quotes, and the quote that opens each text between them
abbrev pub outside_quotes : Quoting → List ℕ → List ℕ
outside_quotes quoting [] = []
outside_quotes quoting (b ∷ rest) = if_outside quoting b ++ outside_quotes (after quoting b) rest

-- the pieces of a path: keys, names and indexes; a name between quotes is its first quote alone
abbrev pub path_pieces : List ℕ → List (List ℕ)
path_pieces path = slice_split (λ b. b == dot) (outside_quotes Outside path)

-- ---- how pieces write a path

-- the byte may stand in an index: it is a digit, or the `N` that stands for any number
abbrev pub is_index_byte : ℕ → Bool
is_index_byte b = is_ascii_digit b || (b == letter_n)

-- an index, and the bracket that closes it
abbrev pub closes_index : List ℕ → Bool
closes_index [] = false
closes_index (b ∷ []) = b == closing_bracket
closes_index (b ∷ next ∷ rest) = is_index_byte b && closes_index (next ∷ rest)

-- the piece begins as an index
abbrev pub opens_index : List ℕ → Bool
opens_index [] = false
opens_index (b ∷ rest) = b == opening_bracket

-- the piece is an index between brackets, of which the number may be left out
abbrev pub is_index : List ℕ → Bool
is_index piece = opens_index piece && closes_index (drop 1 piece)

-- the piece is a name: any text but none and what begins as an index
abbrev pub is_name : List ℕ → Bool
is_name piece = not (length piece == 0) && not (opens_index piece)

-- the piece writes the step
abbrev pub writes_step : TableStep → List ℕ → Bool
writes_step (key text) piece = pointwise nat_eq piece text
writes_step a_name piece = is_name piece
writes_step an_index piece = is_index piece

-- the step may be left out: an index may
abbrev pub is_optional : TableStep → Bool
is_optional an_index = true
is_optional step = false

-- the pieces write the steps one by one, but for indexes that are left out
abbrev pub write_steps : List (List ℕ) → List TableStep → Bool
write_steps pieces [] = length pieces == 0
write_steps [] (step ∷ steps) = is_optional step && write_steps [] steps
write_steps (piece ∷ pieces) (step ∷ steps) = if writes_step step piece
    then write_steps pieces steps
    else (is_optional step && write_steps (piece ∷ pieces) steps)

-- ---- the key of a path

-- the first of these keys to which the pieces lead
abbrev pub key_along : List (List ℕ) → List KnownKey → Option KeyRule
key_along pieces known =
    option_map (λ known. known.rule) (find (λ known. write_steps pieces (steps_to known)) known)

-- the key to which the pieces lead, from the top of a file or from a profile
abbrev pub key_by : List (List ℕ) → Option KeyRule
key_by pieces = option_or (key_along pieces (keys_among file_fields []))
    (key_along pieces (keys_among profile_fields []))

-- the key at a path
abbrev pub key_at : List ℕ → Option KeyRule
key_at path = key_by (path_pieces path)
