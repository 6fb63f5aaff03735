-- The line of a file where a finding begins, with marks under what is found.
pub mod Shown
use Rattle.std.specs.Prelude.{ℕ, ◌+◌, ◌-◌, ◌==◌, max, nat_lt, Bool, ◌&&◌, List, [], ◌++◌, codes, decimal, drop, flat_map, length, slice_index_or, take, if◌then◌else◌}
use Rattle.std.specs.List.{repeat}
use Rattle.std.specs.Str.{chars}
use Rattle.toml_spans.specs.declared.place.Span.{Span}
use Rattle.nextest_config_output.specs.Findings.Excerpt.Shown.{character_shown, columns}

-- ---- what is shown of a line

-- so many characters of a line are shown
abbrev pub most_shown : ℕ
most_shown = 200

-- a line with more characters is cut
abbrev pub is_cut : List ℕ → Bool
is_cut characters = nat_lt most_shown (length characters)

-- two dots where the line is cut
abbrev pub cut_text : List ℕ → List ℕ
cut_text characters = if is_cut characters then codes " .." else []

-- the characters that are shown, and two dots where the line is cut
abbrev pub shown_line : List ℕ → List ℕ
shown_line characters =
    flat_map character_shown (take most_shown characters) ++ cut_text characters

-- ---- what is marked

-- of the characters of the line where a range begins, those before its begin
abbrev pub before_begin : Span → List ℕ → List ℕ
before_begin span characters = take (span.begin.column - 1) characters

-- of the characters of the line where a range begins, those before its end; all, where it ends
-- below
abbrev pub before_end : Span → List ℕ → List ℕ
before_end span characters = if span.begin.line == span.end.line
    then take (span.end.column - 1) characters
    else characters

-- of the characters of the line where a range begins, those that the range holds
abbrev pub held : Span → List ℕ → List ℕ
held span characters = drop (span.begin.column - 1) (before_end span characters)

-- the range begins where the line is cut, or behind that
abbrev pub begins_past_cut : Span → List ℕ → Bool
begins_past_cut span characters = is_cut characters && nat_lt most_shown span.begin.column

-- as many blanks as columns before the range; before the two dots, one more than all columns
abbrev pub blank_count : Span → List ℕ → ℕ
blank_count span characters = if begins_past_cut span characters
    then columns (take most_shown characters) + 1
    else columns (before_begin span (take most_shown characters))

-- as many marks as columns of what is shown of the range, and at least one; two for the two dots
abbrev pub mark_count : Span → List ℕ → ℕ
mark_count span characters = if begins_past_cut span characters
    then 2
    else max 1 (columns (held span (take most_shown characters)))

-- the blanks before what is found, and the marks under it
abbrev pub marks_line : Span → List ℕ → List ℕ
marks_line span characters =
    repeat (blank_count span characters) (codes " ")
    ++ repeat (mark_count span characters) (codes "^")

-- ---- the lines below a finding

-- the line with this number, from 1; the empty line where there is none
abbrev pub line_numbered : ℕ → List (List ℕ) → List ℕ
line_numbered number lines = slice_index_or lines (number - 1) []

-- as many blanks as the number has digits
abbrev pub margin : ℕ → List ℕ
margin number = repeat (length (decimal number)) (codes " ")

-- an empty line, the numbered line with these characters, and the marks under it
abbrev pub excerpt_of : Span → List ℕ → List ℕ
excerpt_of span characters =
    margin span.begin.line ++ (codes " |\n"
    ++ (decimal span.begin.line ++ (codes " | " ++ (shown_line characters ++ (codes "\n"
    ++ (margin span.begin.line ++ (codes " | " ++ (marks_line span characters ++ codes "\n"))))))))

-- the lines below a finding: the line of its file where its range begins, with marks under it
abbrev pub excerpt : Span → List (List ℕ) → List ℕ
excerpt span lines = excerpt_of span (chars (line_numbered span.begin.line lines))
