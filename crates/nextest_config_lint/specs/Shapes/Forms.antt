-- Forms of values of which only the faults count, after nextest's documentation.
use Rattle.std.specs.Prelude.{◌≡◌, ◌≢◌, ◌||◌, Bool, true, false, ℕ, ℤ, pos, negsuc, List, [], ◌∷◌, codes}
use Rattle.std.proofs.Common.{inl, inr, refl}
use Rattle.toml.specs.Data.{as_array, as_bool, as_float, as_integer, as_str, as_table, Data, item, Items, no_items}
use Rattle.nextest_config_values.specs.Decisions.{IsDecided}
use Rattle.nextest_config_values.specs.Read.{kind, one_that, Reading, text_expected, wrong_kind}
use Rattle.nextest_config_values.specs.Read.Fault.{unknown_word}
use Rattle.nextest_config_elements.specs.Acceptance.{Acceptance, accepts_where, any_value, holds_or_not, one_word}
use Rattle.nextest_config_elements.specs.WordList.{listed_words, unlisted_words}
use Rattle.nextest_config_elements.specs.declared.word_list.WordList.{WordList}
use Rattle.nextest_config_lint.specs.Settings.{is_known}

-- ---- platforms

-- a text, or a table (TOML 1.1, "String" and "Table")
abbrev pub platform_form : Reading Data Acceptance
platform_form = kind as_str (λ text. any_value)
    (kind as_table (λ members. any_value)
    (wrong_kind (codes "a string or a table ({ host = \"..\", target = \"..\" })")))

-- ---- words

pub bool_decided : (answer : Bool) → IsDecided (answer ≡ true)
bool_decided true = inl refl
bool_decided false = inr (λ same. cc same)

-- the text is one of the words of a list, or one that is taken, too
abbrev pub is_listed : WordList → List ℕ → Bool
is_listed list text = is_known (listed_words list) text || is_known (unlisted_words list) text

-- the text is one of the words; a refusal lists them, but for those that are taken, too
abbrev pub listed_word : WordList → List ℕ → Reading Data Acceptance
listed_word list text = one_that (λ accepted. is_listed list text ≡ true) (λ x y a b. refl)
    (holds_or_not (bool_decided (is_listed list text)))
    (λ value. unknown_word text (listed_words list))

-- one of the words of a list (TOML 1.1, "String")
abbrev pub word_form : WordList → Reading Data Acceptance
word_form list = kind as_str (listed_word list) (wrong_kind text_expected)

-- ---- depths

-- what is said to be expected where a depth is refused
abbrev pub depth_expected : List ℕ
depth_expected = codes "a non-negative integer or the string \"infinite\""

-- the number isn't negative
abbrev pub IsNatural : ℤ → Type 0
IsNatural number = (n : ℕ) × (number ≡ pos n)

pub natural_decided : (number : ℤ) → IsDecided (IsNatural number)
natural_decided (pos n) = inl (n, refl)
natural_decided (negsuc n) = inr (λ h. cc h.1)

-- an integer from 0 on
abbrev pub depth_number : ℤ → Reading Data Acceptance
depth_number number = accepts_where (IsNatural number) (natural_decided number) depth_expected

-- an integer from 0 on, or the text `infinite` (TOML 1.1, "Integer" and "String")
abbrev pub depth_form : Reading Data Acceptance
depth_form = kind as_integer depth_number (one_word (codes "infinite") depth_expected)

-- ---- texts and commands

-- what a text is made of: one, a boolean, an integer or a float
abbrev pub scalar_form : Reading Data Acceptance
scalar_form = kind as_str (λ text. any_value) (kind as_bool (λ truth. any_value)
    (kind as_integer (λ number. any_value) (kind as_float (λ number. any_value)
    (wrong_kind text_expected))))

-- what is said to be expected where a text or an array of them is
abbrev pub texts_expected : List ℕ
texts_expected = codes "a string or an array of strings"

-- a text, or an array (TOML 1.1, "String" and "Array")
abbrev pub texts_form : Reading Data Acceptance
texts_form = kind as_str (λ text. any_value) (kind as_array (λ items. any_value)
    (wrong_kind texts_expected))

-- what is said to be expected in place of an empty command line
abbrev pub command_expected : List ℕ
command_expected = codes "a command"

pub some_text_decided : (text : List ℕ) → IsDecided (text ≢ [])
some_text_decided [] = inr (λ differs. differs refl)
some_text_decided (b ∷ rest) = inl (λ same. cc same)

pub some_items_decided : (items : Items) → IsDecided (items ≢ no_items)
some_items_decided no_items = inr (λ differs. differs refl)
some_items_decided (item value rest) = inl (λ same. cc same)

-- a text or an array that isn't empty (TOML 1.1, "String" and "Array")
abbrev pub line_form : List ℕ → Reading Data Acceptance
line_form expected =
    kind as_str (λ text. accepts_where (text ≢ []) (some_text_decided text) command_expected)
    (kind as_array
    (λ items. accepts_where (items ≢ no_items) (some_items_decided items) command_expected)
    (wrong_kind expected))

-- a command line
abbrev pub command_line_form : Reading Data Acceptance
command_line_form = line_form texts_expected

-- what is said to be expected where a command is refused
abbrev pub line_or_table_expected : List ℕ
line_or_table_expected =
    codes "a string, an array of strings or a table ({ command-line = \"..\" })"

-- a command line, or a table (TOML 1.1, "Table")
abbrev pub command_form : Reading Data Acceptance
command_form = kind as_table (λ members. any_value) (line_form line_or_table_expected)
