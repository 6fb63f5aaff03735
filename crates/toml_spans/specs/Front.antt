-- The column after a front of a text, byte by byte.
use Rattle.std.specs.Prelude.{ℕ, ◌+◌, ◌==◌, if◌then◌else◌}
use Rattle.toml_spans.specs.Characters.{line_feed}
use Rattle.toml_spans.specs.Offsets.{begins_character}

-- the column after one byte more
abbrev pub column_after : ℕ → ℕ → ℕ
column_after column byte = if byte == line_feed then 1 else if begins_character byte then column + 1
    else column
