-- Where the text of an identifier or a tool name is kept.
use Rattle.std.specs.Prelude.{ℕ, ◌<◌, ◌≤◌, List, length, string_bytes}
use Rattle.nextest_config_values.specs.declared.identifier.kept_text.Place.{Place}
use Rattle.nextest_config_values.specs.declared.identifier.kept_text.Place.TheVariants.{Inline, Heap}

-- the length in bytes of the longest texts that are kept within the value
abbrev pub inline_capacity : ℕ
inline_capacity = 23

-- the text is short enough to be kept within the value
abbrev pub FitsInline : List ℕ → Type 0
FitsInline text = length text ≤ inline_capacity

-- the text at a place
abbrev pub text_at : Place → List ℕ
text_at (Inline text) = text.bytes
text_at (Heap text) = string_bytes text

-- only a text that doesn't fit is kept elsewhere
abbrev pub IsPlaced : Place → Type 0
IsPlaced (Inline text) = Unit {0}
IsPlaced (Heap text) = inline_capacity < length (string_bytes text)
