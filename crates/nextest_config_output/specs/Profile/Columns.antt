-- Lines in two columns.
use Rattle.std.specs.Prelude.{ℕ, ◌+◌, ◌-◌, max, nat_le, false, ◌&&◌, List, ◌++◌, codes, fold, Option, Some, None, is_some, if◌then◌else◌}
use Rattle.std.specs.List.{repeat}
use Rattle.std.specs.Str.{chars}
use Rattle.unicode_width.specs.Width.{str_width}
use Rattle.nextest_config_output.specs.Profile.SourcedLine.{Line}

-- the columns that a text takes, by the widths of `unicode_width`
abbrev pub width : List ℕ → ℕ
width text = str_width false (chars text)

-- the width of a first column, as far as it moves the sources: where there is a source, and it is
-- at most 60 wide
abbrev pub aligned_width : Line → ℕ
aligned_width line =
    if is_some line.source && nat_le (width line.first) 60 then width line.first else 0

-- the greatest width of a first column of these lines that moves the sources; 0 where none does
abbrev pub widest : List Line → ℕ
widest lines = fold (λ most line. max most (aligned_width line)) 0 lines

-- the column of sources: two blanks behind the widest first column of all lines that moves them
abbrev pub source_column : List Line → List Line → ℕ
source_column settings others = max (widest settings) (widest others) + 2

-- how many blanks lead from a first column to the column of sources: at least two
abbrev pub gap : ℕ → List ℕ → ℕ
gap column first = max (column - width first) 2

-- a line with a source: its first column, blanks up to the column of sources, and the source
abbrev pub sourced_text : ℕ → List ℕ → List ℕ → List ℕ
sourced_text column first source =
    first ++ (repeat (gap column first) (codes " ") ++ (source ++ codes "\n"))

-- a line, with its source if it has one; no blank stands at the end of one without a source
abbrev pub text_of : ℕ → List ℕ → Option (List ℕ) → List ℕ
text_of column first (Some source) = sourced_text column first source
text_of column first None = first ++ codes "\n"

-- a line as it prints where the sources begin at this column
abbrev pub line_text : ℕ → Line → List ℕ
line_text column line = text_of column line.first line.source
