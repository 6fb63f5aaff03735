-- Basic strings of TOML, on one line.
use Rattle.std.specs.Prelude.{ℕ, ◌/◌, ◌%◌, ◌==◌, true, List, [], ◌∷◌, ◌++◌, flat_map, codes, encode_utf8, unwrap_or, if◌then◌else◌}
use Rattle.std.specs.Fmt.{digit_glyph}
use Rattle.std.specs.Str.{chars}
use Rattle.nextest_config_values.specs.Literal.Shown.{is_unprintable}
use Rattle.toml_spans.specs.Characters.{backslash, double_quote}
use Rattle.toml_spans.specs.QuotedText.{letter_escape}

-- a character by its code, which is below 65536: `\u` and four hexadecimal digits in upper case
-- (TOML 1.1, "String")
abbrev pub code_text : ℕ → List ℕ
code_text c = codes "\\u" ++ (digit_glyph true (c / 4096) ∷ digit_glyph true (c / 256 % 16)
    ∷ digit_glyph true (c / 16 % 16) ∷ digit_glyph true (c % 16) ∷ [])

-- a character that is neither a quote nor a backslash: by its letter, by its code where it is never
-- shown as it is, or as it is
abbrev pub unquoted_character : ℕ → List ℕ
unquoted_character c =
    unwrap_or (letter_escape c) (if is_unprintable c then code_text c else encode_utf8 c)

-- a character between the quotes (TOML 1.1, "String")
abbrev pub basic_character : ℕ → List ℕ
basic_character c =
    if c == double_quote then codes "\\\""
    else if c == backslash then codes "\\\\"
    else unquoted_character c

-- a text as a basic string: between double quotes (TOML 1.1, "String")
unfoldable pub basic_text : List ℕ → List ℕ
basic_text text = codes "\"" ++ (flat_map basic_character (chars text) ++ codes "\"")
