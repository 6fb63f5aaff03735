-- Texts between double quotes.
use Rattle.std.specs.Prelude.{ℕ, Bool, ◌==◌, List, ◌++◌, Option, None, Some, flat_map, codes, encode_utf8, unwrap_or, if◌then◌else◌}
use Rattle.std.specs.Char.{is_control}
use Rattle.std.specs.Char.Escape.{escape_unicode}
use Rattle.std.specs.Str.{chars}
use Rattle.toml_spans.specs.Characters.{backslash, carriage_return, double_quote, line_feed, nul, tab}

-- the letter behind a backslash that stands for what ends a line, or for a tab (TOML 1.1, "String")
abbrev pub letter_escape : ℕ → Option (List ℕ)
letter_escape c =
    if c == line_feed then Some (codes "\\n")
    else if c == carriage_return then Some (codes "\\r")
    else if c == tab then Some (codes "\\t")
    else None

-- a character by its code, as Rust has it: nul as `\0`, another as `\u{..}`, in lower case
-- hexadecimal
abbrev pub by_code : ℕ → List ℕ
by_code c = if c == nul then codes "\\0" else flat_map encode_utf8 (escape_unicode c)

-- a character: by its letter, by its code where it is hidden, else as it is
abbrev pub visible_character : Bool → ℕ → List ℕ
visible_character hidden c = unwrap_or (letter_escape c)
    (if hidden then by_code c else encode_utf8 c)

-- a character between the quotes; hidden are control characters (U+0000 to U+001F, U+007F to
-- U+009F)
abbrev pub quoted_character : ℕ → List ℕ
quoted_character c =
    if c == double_quote then codes "\\\""
    else if c == backslash then codes "\\\\"
    else visible_character (is_control c) c

-- a text between double quotes
unfoldable pub quoted_text : List ℕ → List ℕ
quoted_text text = codes "\"" ++ (flat_map quoted_character (chars text) ++ codes "\"")
