-- What is wrong in a text that is no document, where that is known beyond what `toml` says: its
-- front, and behind that what is refused.
use Rattle.std.specs.Prelude.{◌≡◌, ◌⊎◌, ◌+◌, ◌-◌, ◌&&◌, ◌||◌, ◌==◌, ℕ, Bool, true, false, not, List, [], ◌∷◌, ◌++◌, codes, drop, if◌then◌else◌, IsUtf8, length, map, Option, Some, None, option_map, slice_index, take}
use Rattle.std.specs.Char.{is_ascii_alphabetic}
use Rattle.std.specs.List.{list_all}
use Rattle.std.specs.Option.{option_or}
use Rattle.toml.specs.Parse.{parse_document}
use Rattle.toml_parser.specs.Lexical.{equals, first, left_bracket, line_feed, skip_ws}
use Rattle.toml_parser.specs.Strings.{Key, key}
use Rattle.toml_spans.specs.Index.{IsIndexOf, IsSpanOf, ranges_in}
use Rattle.toml_spans.specs.Line.{line_after}
use Rattle.toml_spans.specs.Step as step
use Rattle.toml_spans.specs.Step.{PathStep}
use Rattle.toml_spans.specs.declared.index.Index.{Index}
use Rattle.toml_spans.specs.declared.place.Span.{Span}
use Rattle.nextest_config_lint.specs.Conversion.{is_word}
use Rattle.nextest_config_lint.specs.Found.{Mistaken, misspelt, repeated, unquoted}
use Rattle.nextest_config_values.specs.NearestWord.{IsNearest}
use Rattle.nextest_config_lint.specs.declared.mistake.Section.{Section}

-- ---- a value without quotes

-- the text has no `=`
abbrev pub has_no_equals : List ℕ → Bool
has_no_equals text = list_all (λ byte. not (byte == equals)) text

-- what is refused is a value that begins with a letter: a statement has an `=` or begins with a
-- bracket (TOML 1.1, "Key/Value Pair" and "Table")
abbrev pub is_unquoted : List ℕ → Bool
is_unquoted refused =
    is_ascii_alphabetic (first refused) && has_no_equals refused

-- a boolean of which two letters have changed places, which the nearest word leaves out
abbrev pub swapped : List ℕ → Option (List ℕ)
swapped word =
    if (is_word word (codes "aflse") || is_word word (codes "flase"))
    || (is_word word (codes "fasle") || is_word word (codes "fales"))
    then Some (codes "false")
    else if is_word word (codes "rtue") || is_word word (codes "ture")
    || is_word word (codes "treu")
    then Some (codes "true")
    else None

-- the mistake in a value: it is misspelt for this boolean, or else a text without its quotes
abbrev pub mistake_by : Option (List ℕ) → Mistaken
mistake_by (Some word) = misspelt word
mistake_by None = unquoted

-- the mistake in a value without quotes, by the boolean that it is near, or of which two letters
-- are swapped
abbrev pub IsOfWord : List ℕ → Mistaken → Type 0
IsOfWord word mistake = (near : Option (List ℕ))
    × IsNearest (codes "false" ∷ codes "true" ∷ []) word near
    × (mistake ≡ mistake_by (option_or near (swapped word)))

-- ---- a key that stands there twice

-- a line begins with a bracket, as headers do
abbrev pub is_header : List ℕ → Bool
is_header line = first (skip_ws line) == left_bracket

-- a header begins with two brackets, as that of an array of tables does (TOML 1.1, "Array of
-- Tables")
abbrev pub is_double : List ℕ → Bool
is_double header = first header == left_bracket && slice_index header 1 == left_bracket

-- what stands behind the brackets of a header; all of a statement that has none
abbrev pub inside : List ℕ → List ℕ
inside statement = if is_double statement then drop 2 statement
    else if first statement == left_bracket then drop 1 statement
    else statement

-- the key of a statement, a header or a pair
abbrev pub statement_key : List ℕ → Option Key
statement_key statement = option_map (λ read. read.0) (key (skip_ws (inside statement)))

-- the steps of a key
abbrev pub key_steps : Key → List PathStep
key_steps it = map step.key (it.0 ++ (it.1 ∷ []))

-- the steps to a header's table, in a text that it begins: of double brackets it is the first
-- element
abbrev pub table_steps : List ℕ → Key → List PathStep
table_steps header it =
    key_steps it ++ (if is_double header then step.index 0 ∷ [] else [])

-- the text, if it begins with a header
abbrev pub header_at : List ℕ → Option (List ℕ)
header_at text = if is_header text then Some text else None

-- the text from the last line on that begins with a bracket, of the lines behind a line feed
abbrev pub last_header : List ℕ → Option (List ℕ)
last_header [] = None
last_header (byte ∷ rest) =
    option_or (last_header rest) (if byte == line_feed then header_at rest else None)

-- where a key is sought: a part of the text that goes on up to its statement, and the steps of its
-- table there
abbrev pub SoughtIn : Type 0
SoughtIn = List ℕ × List PathStep

-- a section, without where it lies in memory
abbrev pub section_view : Section → SoughtIn
section_view section = (section.part.now, map step.step_of section.table.items)

-- the table of the header that a part begins with
abbrev pub section_behind : List ℕ → Option SoughtIn
section_behind part = option_map (λ it. (part, table_steps (skip_ws part) it))
    (statement_key (skip_ws part))

-- where the key of a pair is sought: behind the last header, or in all of the front without one
abbrev pub section_from : List ℕ → Option (List ℕ) → Option SoughtIn
section_from front None = Some (front, [])
section_from front (Some part) = section_behind part

-- the key of a header is sought in all of the text before, that of a pair behind the last header
abbrev pub section_of : List ℕ → List ℕ → Option SoughtIn
section_of front statement = if first statement == left_bracket then Some (front, [])
    else section_from front (last_header (line_feed ∷ front))

-- where the key of a path stands in a part of the text, if that is a document
abbrev pub IsKeySpan : List ℕ → List PathStep → Option Span → Type 0
IsKeySpan part path span = ((parse_document part ≡ None) × (span ≡ None))
    ⊎ ((index : Index) × IsIndexOf part index
    × IsSpanOf part ((ranges_in index).of_key path) span)

-- the line of a place in a part of the text that begins on this line
abbrev pub line_in : ℕ → Span → ℕ
line_in line span = (line - 1) + span.begin.line

-- the front of a text up to this part of it
abbrev pub before_part : List ℕ → List ℕ → List ℕ
before_part front part = take (length front - length part) front

-- the key stands in its section already, at its place there
abbrev pub IsRepeatedIn : List ℕ → SoughtIn → Key → Option Mistaken → Type 0
IsRepeatedIn front section it mistake = (span : Option Span)
    × IsKeySpan section.0 (section.1 ++ key_steps it) span
    × (mistake ≡ option_map (λ span. repeated it.1
    (line_in (line_after (before_part front section.0)) span)) span)

-- the mistake of a key, if it stands in its section already; none where key or section isn't known
abbrev pub IsRepeatedBy : List ℕ → Option Key → Option SoughtIn → Option Mistaken → Type 0
IsRepeatedBy front (Some it) (Some section) mistake = IsRepeatedIn front section it mistake
IsRepeatedBy front it section mistake = mistake ≡ None

-- the mistake of a statement, if its key stands in its section already (TOML 1.1, "Keys" and
-- "Table")
abbrev pub IsRepeated : List ℕ → List ℕ → Option Mistaken → Type 0
IsRepeated front statement =
    IsRepeatedBy front (statement_key statement) (section_of front statement)

-- ---- the mistake

-- the mistake in a text: a value without quotes, or else a key that stands there twice
abbrev pub IsMistakeIn : List ℕ → List ℕ → Option Mistaken → Type 0
IsMistakeIn front refused mistake =
    ((is_unquoted refused ≡ true)
    × ((known : Mistaken) × IsOfWord refused known × (mistake ≡ Some known)))
    ⊎ ((is_unquoted refused ≡ false) × IsRepeated front refused mistake)

-- the mistake in a text, by its front and what is refused; none is known where a character is cut
abbrev pub IsMistake : List ℕ → List ℕ → Option Mistaken → Type 0
IsMistake front refused mistake =
    (IsUtf8 front × IsUtf8 refused × IsMistakeIn front refused mistake)
    ⊎ ((IsUtf8 front → IsUtf8 refused → ⊥) × (mistake ≡ None))
