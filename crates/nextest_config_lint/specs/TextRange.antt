-- Where a fault of a text stands in the file: where a string is written plain, at the bytes of the
-- text that it reports.
use Rattle.std.specs.Prelude.{◌≡◌, ℕ, ◌+◌, ◌-◌, ◌==◌, ◌&&◌, Bool, false, List, [], ◌∷◌, drop, if◌then◌else◌, length, nat_eq, nat_le, Option, Some, None, option_and_then, take}
use Rattle.std.specs.Cmp.Lexicographic.{pointwise}
use Rattle.toml.specs.Data.{as_str, Members}
use Rattle.toml.specs.Parse.{parse_document}
use Rattle.toml_spans.specs.Characters.{carriage_return, line_feed}
use Rattle.toml_spans.specs.Line.{found_in}
use Rattle.toml_spans.specs.Ranges.{Range, Ranges}
use Rattle.toml_spans.specs.Step.{PathStep}
use Rattle.nextest_config_filters.specs.Fault.{Fault as TextFault}
use Rattle.toml_spans.specs.Index.{IsIndexOf}
use Rattle.toml.specs.View.{table_view}
use Rattle.nextest_config_lint.specs.declared.text_range.IndexedDocument.{IndexedDocument}

-- ---- strings as they are written (TOML 1.1, "String")

-- how many quotes open a string, and close it: three, or one
abbrev pub quotes_of : List ℕ → ℕ
quotes_of (a ∷ b ∷ c ∷ rest) = if a == b && a == c then 3 else 1
quotes_of written = 1

-- how many bytes the line end takes that a string begins with, where it has one: a line feed, or a
-- carriage return before it
abbrev pub line_end_of : List ℕ → ℕ
line_end_of (a ∷ b ∷ rest) = if a == line_feed then 1
    else if a == carriage_return && b == line_feed then 2 else 0
line_end_of rest = 0

-- how many bytes stand before the text of a string: its quotes, and a line end behind three of them
abbrev pub opening_of : List ℕ → ℕ
opening_of written = let quotes = quotes_of written in
    if quotes == 3 then 3 + line_end_of (drop 3 written) else quotes

-- a string is written plain: behind what opens it, and before its quotes, stands its text, which
-- isn't empty, as it is
abbrev pub is_plain : List ℕ → List ℕ → Bool
is_plain written [] = false
is_plain written (b ∷ text) =
    length written == opening_of written + (length (b ∷ text) + quotes_of written)
    && pointwise nat_eq (take (length (b ∷ text)) (drop (opening_of written) written)) (b ∷ text)

-- ---- ranges

-- the bytes of a range
abbrev pub bytes_at : List ℕ → Range → List ℕ
bytes_at contents range = take (range.1 - range.0) (drop range.0 contents)

-- a fault lies in a text
abbrev pub lies_in : List ℕ → TextFault → Bool
lies_in text fault = nat_le fault.begin fault.end && nat_le fault.end (length text)

-- the range of a fault of a text that begins at this byte
abbrev pub range_behind : ℕ → TextFault → Range
range_behind begin fault = (begin + fault.begin, begin + fault.end)

-- the range of a fault of a text whose string stands at this range, where that is written plain
abbrev pub range_in_string : List ℕ → List ℕ → TextFault → Range → Option Range
range_in_string contents text fault value = let written = bytes_at contents value in
    if is_plain written text && lies_in text fault
    then Some (range_behind (value.0 + opening_of written) fault) else None

-- the text that a path leads to, in what a file reads as
abbrev pub text_in : Members → List PathStep → Option (List ℕ)
text_in members path = option_and_then as_str (found_in members path)

abbrev pub text_at : List ℕ → List PathStep → Option (List ℕ)
text_at contents path = option_and_then (λ members. text_in members path) (parse_document contents)

-- the range of a fault of the text that a path leads to, where its string is written plain
abbrev pub plain_range : List ℕ → Ranges → List PathStep → TextFault → Option Range
plain_range contents ranges path fault =
    option_and_then (λ text. option_and_then (range_in_string contents text fault)
    (ranges.of_value path))
    (text_at contents path)

-- ---- a document with its text and its index

pub record IsIndexed (file : IndexedDocument) : Type 0 where
  pub of_text : IsIndexOf file.text.now file.index.now
  pub read : parse_document file.text.now ≡ Some (table_view file.document.now)
