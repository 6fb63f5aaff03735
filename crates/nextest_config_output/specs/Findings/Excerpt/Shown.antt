-- What is shown of characters, and the columns that it takes.
use Rattle.std.specs.Prelude.{ℕ, ◌==◌, false, List, codes, length, sum_by, unwrap_or, if◌then◌else◌}
use Rattle.unicode_width.specs.Width.{char_width}
use Rattle.nextest_config_values.specs.Literal.Shown.{is_unprintable, shown_character}
use Rattle.toml_spans.specs.Characters.{tab}

-- a tab is shown as four blanks, and any other character as in each line
abbrev pub character_shown : ℕ → List ℕ
character_shown c = if c == tab then codes "    " else shown_character c

-- a character that isn't shown as it is takes a column for each one that is shown of it, and any
-- other those that Unicode gives it, by the widths of `unicode_width`
abbrev pub columns_of : ℕ → ℕ
columns_of c =
    if is_unprintable c then length (character_shown c) else unwrap_or (char_width false c) 0

-- the columns that characters take
abbrev pub columns : List ℕ → ℕ
columns characters = sum_by columns_of characters
