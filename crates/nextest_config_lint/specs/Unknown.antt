-- The keys of a document that aren't known where they stand, and what they may be meant for.
use Rattle.std.specs.Prelude.{◌≡◌, ℕ, ◌==◌, ◌&&◌, ◌||◌, Bool, true, false, if◌then◌else◌, List, [], ◌∷◌, codes, find, map, Option, Some, None, option_map}
use Rattle.std.specs.List.{slice_split}
use Rattle.std.specs.Option.{option_or}
use Rattle.toml.specs.Data.{Data, Members, table}
use Rattle.toml_spans.specs.Step.{PathStep}
use Rattle.nextest_config_lint.specs.Found.{Found, found_at, Suggestion, the_key, the_word, unknown_key}
use Rattle.nextest_config_values.specs.NearestWord.{dash, distance, IsNearest, is_same}
use Rattle.nextest_config_lint.specs.Settings.{a_value, is_key, is_known, names_of, SettingView, Subject}
use Rattle.nextest_config_lint.specs.declared.finding.Scope.{Scope}
use Rattle.nextest_config_lint.specs.declared.finding.Scope.TheVariants.{Junit, Override, Profile, Top}
use Rattle.nextest_config_elements.specs.Fields.{elements_or_fields, field_words, fields, Parts, versions}
use Rattle.nextest_config_elements.specs.Keys.{file_fields, override_fields, override_junit_fields, profile_fields}

-- a key of a table: the keys that are known there, and the path to the table
pub record TableKey : Type 0 where
  pub known : List (List ℕ)
  pub path : List PathStep
  pub name : List ℕ

-- ---- the keys that are judged

-- the key of this name, in the table at a path
abbrev pub key_at : List (List ℕ) → List PathStep → List ℕ → TableKey
key_at known path name = record { known = known; path = path; name = name }

-- the keys of a table, where those that are known there are given
abbrev pub keys_among : Option (List (List ℕ)) → List PathStep → Members → List TableKey
keys_among None path held = []
keys_among (Some known) path held = map (key_at known path) (names_of held)

-- the keys that are known in a table, where one that isn't is only told: a table of retries refuses
-- such keys, and those of `experimental` name features
abbrev pub known_words : Parts → Option (List (List ℕ))
known_words (fields known) = Some (field_words known)
known_words (versions known) = Some (field_words known)
known_words (elements_or_fields shape known) = Some (field_words known)
known_words parts = None

-- the keys of a value, if it is a table
abbrev pub keys_below : Parts → List PathStep → Data → List TableKey
keys_below parts path (table members) = keys_among (known_words parts) path members
keys_below parts path value = []

-- the keys of what is judged, if it is a value that is a table
abbrev pub keys_of_subject : Subject → List PathStep → List TableKey
keys_of_subject (a_value shape parts value) path = keys_below parts path value
keys_of_subject subject path = []

-- the keys of what is judged
abbrev pub keys_in : SettingView → List TableKey
keys_in setting = keys_of_subject setting.subject setting.path

-- ---- what is found

-- the path is that of the `junit` of a script
abbrev pub is_junit_of_script : List PathStep → Bool
is_junit_of_script (top ∷ name ∷ last ∷ []) =
    is_key (codes "script") top && is_key (codes "junit") last
is_junit_of_script (top ∷ kind ∷ name ∷ last ∷ []) =
    is_key (codes "scripts") top && is_key (codes "junit") last
is_junit_of_script path = false

-- the tables in which a key of the table at a path may belong, in the order in which it is looked
-- for: a key that the `junit` of a script lacks isn't told of another one
abbrev pub scopes_at : List PathStep → List Scope
scopes_at path = if is_junit_of_script path then Top ∷ Profile ∷ Override ∷ []
    else Top ∷ Profile ∷ Override ∷ Junit ∷ []

-- the keys that a table of this kind knows
abbrev pub scope_words : Scope → List (List ℕ)
scope_words Top = field_words file_fields
scope_words Profile = field_words profile_fields
scope_words Override = field_words override_fields
scope_words Junit = field_words override_junit_fields

-- the first of these tables that knows a key of this name
abbrev pub scope_of : List Scope → List ℕ → Option Scope
scope_of scopes name = find (λ scope. is_known (scope_words scope) name) scopes

-- what stands between the dashes of a word
abbrev pub pieces_of : List ℕ → List (List ℕ)
pieces_of word = slice_split (λ b. b == dash) word

-- the first word that has the name as one of its parts
abbrev pub word_with_part : List (List ℕ) → List ℕ → Option (List ℕ)
word_with_part words name = find (λ word. is_known (pieces_of word) name) words

-- the word, if the name is the same or one edit away
abbrev pub slip_of : List ℕ → Option (List ℕ) → Option (List ℕ)
slip_of name None = None
slip_of name (Some word) =
    if is_same name word || (distance name word == 1) then Some word else None

-- the first of these values that there is
abbrev pub first_some : {A : Type 0} → List (Option A) → Option A
first_some [] = None
first_some (first ∷ rest) = option_or first (first_some rest)

-- what an unknown key may be meant for, beside its nearest word: that word where the name is the
-- same or one edit away, the key of the same name elsewhere, the nearest word farther off, or a
-- word that the name is a part of
abbrev pub suggested_beside : List (List ℕ) → List PathStep → List ℕ → Option (List ℕ)
    → Option Suggestion
suggested_beside known path name near = first_some
    (option_map the_word (slip_of name near)
    ∷ option_map the_key (scope_of (scopes_at path) name)
    ∷ option_map the_word near
    ∷ option_map the_word (word_with_part known name) ∷ [])

-- what an unknown key of the table at a path may be meant for, with its nearest word
abbrev pub IsHintFor : List (List ℕ) → List PathStep → List ℕ → Option Suggestion → Type 0
IsHintFor known path name hint = (near : Option (List ℕ)) × IsNearest known name near
    × (hint ≡ suggested_beside known path name near)

-- what is found of a key, by whether it is known: of a known one nothing
abbrev pub IsKeyFoundFor : Bool → TableKey → Option Found → Type 0
IsKeyFoundFor true key found = found ≡ None
IsKeyFoundFor false key found =
    (hint : Option Suggestion)
    × IsHintFor key.known key.path key.name hint
    × (found ≡ Some (found_at key.path (unknown_key key.name hint)))

-- what is found of a key: that it isn't known where it stands, or nothing
abbrev pub IsKeyFound : TableKey → Option Found → Type 0
IsKeyFound key = IsKeyFoundFor (is_known key.known key.name) key
