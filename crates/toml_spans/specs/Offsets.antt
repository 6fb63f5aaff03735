-- Where the bytes of a kind stand in a text.
use Rattle.std.specs.Prelude.{◌≡◌, ℕ, suc, ◌||◌, ◌==◌, Bool, not, List, [], ◌∷◌, length, nat_le, nat_lt, if◌then◌else◌}
use Rattle.toml_spans.specs.Characters.{line_feed}

-- the byte ends a line
abbrev pub ends_line : ℕ → Bool
ends_line byte = byte == line_feed

-- the byte begins a character of UTF-8
abbrev pub begins_character : ℕ → Bool
begins_character byte = nat_lt byte 128 || nat_le 192 byte

-- the byte begins no character of UTF-8: it continues one
abbrev pub continues_character : ℕ → Bool
continues_character byte = not (begins_character byte)

-- where the bytes that pass a test stand, in ascending order; the first byte has this offset
abbrev pub offsets_of : (ℕ → Bool) → ℕ → List ℕ → List ℕ
offsets_of test first [] = []
offsets_of test first (byte ∷ rest) = if test byte then first ∷ offsets_of test (suc first) rest
    else offsets_of test (suc first) rest

-- the length of a text, where its lines begin, and where bytes stand that begin no character
pub record AreOffsetsOf (text : List ℕ) (size : ℕ) (line_begins continuations : List ℕ) : Type 0
  where
    pub size_is : size ≡ length text
    pub line_begins_are : line_begins ≡ 0 ∷ offsets_of ends_line 1 text
    pub continuations_are : continuations ≡ offsets_of continues_character 0 text

-- these are of some text: its length, where its lines begin, and where bytes stand that begin no
-- character
abbrev pub AreOffsets : ℕ → List ℕ → List ℕ → Type 0
AreOffsets size line_begins continuations =
    (text : List ℕ) × AreOffsetsOf text size line_begins continuations
