-- Texts as they are shown to people.
use Rattle.std.specs.Prelude.{◌≡◌, ℕ, Bool, nat_le, not, ◌==◌, ◌&&◌, ◌||◌, IsTrue, List, codes, encode_utf8, flat_map, if◌then◌else◌}
use Rattle.std.specs.Char.{is_control}
use Rattle.std.specs.List.{AllByRecursion}
use Rattle.std.specs.Str.{chars}
use Rattle.nextest_config_values.specs.declared.literal.shown.LineFeeds.{LineFeeds}
use Rattle.nextest_config_values.specs.declared.literal.shown.LineFeeds.TheVariants.{Escaped, Kept}
use Rattle.toml_spans.specs.Characters.{line_feed}
use Rattle.toml_spans.specs.QuotedText.{visible_character}

-- the character's code is one of those from the first to the last, which count too
abbrev pub is_from_to : ℕ → ℕ → ℕ → Bool
is_from_to first last c = nat_le first c && nat_le c last

-- a character that is never shown as it is: a control character (U+0000 to U+001F, U+007F to
-- U+009F), the space without width (U+200B), what ends a line or a paragraph (U+2028, U+2029), and
-- what changes the direction of texts (U+200E, U+200F, U+202A to U+202E, U+2066 to U+2069; Unicode
-- Standard Annex #9)
abbrev pub is_unprintable : ℕ → Bool
is_unprintable c = is_control c || c == 8203 || is_from_to 8206 8207 c || is_from_to 8232 8238 c
    || is_from_to 8294 8297 c

-- a character, as it is shown in a line: by its letter, by its code where it is never shown as it
-- is, or as it is
abbrev pub shown_character : ℕ → List ℕ
shown_character c = visible_character (is_unprintable c) c

-- a character of a text, where line feeds are escaped, too, or stay
abbrev pub character_in : LineFeeds → ℕ → List ℕ
character_in Escaped c = shown_character c
character_in Kept c = if c == line_feed then codes "\n" else shown_character c

-- a text, as it is shown to people, where line feeds are escaped, too, or stay
unfoldable pub shown_in : LineFeeds → List ℕ → List ℕ
shown_in line_feeds text = flat_map (character_in line_feeds) (chars text)

-- a text, as it is shown in a line: its line feeds are escaped
abbrev pub shown_text : List ℕ → List ℕ
shown_text = shown_in Escaped

-- a text of lines, as it is shown: its line feeds stay
abbrev pub shown_lines : List ℕ → List ℕ
shown_lines = shown_in Kept

-- ---- bytes that need no escape

-- the byte is that of a printable character of ASCII
abbrev pub is_printable : ℕ → Bool
is_printable byte = nat_le 32 byte && nat_le byte 126

-- the byte is a line feed, or that of a printable character of ASCII
abbrev pub is_plain : ℕ → Bool
is_plain byte = byte == line_feed || is_printable byte

-- ---- what is never shown

-- the character is a line feed, or may be shown as it is
abbrev pub IsPrintableCharacter : ℕ → Type 0
IsPrintableCharacter c = IsTrue (c == line_feed || not (is_unprintable c))

-- the text writes characters, each a line feed or one that may be shown as it is
pub record IsPrintable (text : List ℕ) : Type 0 where
  pub characters : List ℕ
  pub written : text ≡ flat_map encode_utf8 characters
  pub printable : AllByRecursion IsPrintableCharacter characters
