-- Texts that stand within a line.
use Rattle.std.specs.Prelude.{ℕ, ◌==◌, Bool, false, not, ◌&&◌, ◌||◌, List, codes, flat_map, if◌then◌else◌}
use Rattle.std.specs.Str.{chars}
use Rattle.nextest_config_values.specs.Literal.Shown.{is_printable, shown_character}
use Rattle.toml_spans.specs.Characters.{colon}
use Rattle.nextest_config_output.specs.declared.findings.escapes.Escapes.{Escapes}
use Rattle.nextest_config_output.specs.declared.findings.escapes.Escapes.TheVariants.{InLine, Message, Property}

-- the character `%`
abbrev pub percent : ℕ
percent = 37

-- the character `,`
abbrev pub comma : ℕ
comma = 44

-- a character in a message of GitHub's workflow commands: `%` by its hexadecimal code, any other as
-- in a line
abbrev pub in_message : ℕ → List ℕ
in_message c = if c == percent then codes "%25" else shown_character c

-- a character in a property of GitHub's workflow commands: `:` and `,` by their codes, any other as
-- in a message
abbrev pub in_property : ℕ → List ℕ
in_property c =
    if c == colon then codes "%3A" else if c == comma then codes "%2C" else in_message c

-- what stands for a character in a line, in a message or in a property
abbrev pub escaped_character : Escapes → ℕ → List ℕ
escaped_character InLine = shown_character
escaped_character Message = in_message
escaped_character Property = in_property

-- a text, each of its characters as it is escaped
unfoldable pub escaped_text : Escapes → List ℕ → List ℕ
escaped_text escapes text = flat_map (escaped_character escapes) (chars text)

-- the byte of a printable character that a workflow command escapes
abbrev pub is_marked : Escapes → ℕ → Bool
is_marked InLine byte = false
is_marked Message byte = byte == percent
is_marked Property byte = byte == percent || byte == colon || byte == comma

-- the byte of a printable character of ASCII that nothing else stands for
abbrev pub is_plain : Escapes → ℕ → Bool
is_plain escapes byte = is_printable byte && not (is_marked escapes byte)
