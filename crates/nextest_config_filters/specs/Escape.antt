-- Backslashes in the text of an argument.
use Rattle.std.specs.Prelude.{ℕ, ◌==◌, ◌&&◌, ◌||◌, not, Bool, false, List, [], ◌∷◌, if◌then◌else◌}
use Rattle.std.specs.Char.{is_ascii_alphabetic, is_ascii_digit}
use Rattle.nextest_config_filters.specs.Front.{bar, begins, behind_run, closing_brace, in_code, opening_brace}

-- `u`
abbrev pub letter_u : ℕ
letter_u = 117

-- one of `b`, `f`, `n`, `r`, `t`
abbrev pub is_short_escape : ℕ → Bool
is_short_escape c = c == 98 || (c == 102 || (c == 110 || (c == 114 || c == 116)))

-- one of `.`, `+`, `$`, `^`, `|`
abbrev pub is_pattern_mark : ℕ → Bool
is_pattern_mark c = c == 46 || (c == 43 || (c == 36 || (c == 94 || c == bar)))

-- behind a backslash it writes nothing but in a regular expression: a digit, a letter that is no
-- short escape, or a mark of patterns
abbrev pub is_pattern_escape : ℕ → Bool
is_pattern_escape c =
    is_ascii_digit c || ((is_ascii_alphabetic c && not (is_short_escape c)) || is_pattern_mark c)

-- the text begins with one hexadecimal digit or `_` at least, and then `}`
abbrev pub is_code : List ℕ → Bool
is_code [] = false
is_code (c ∷ cs) = in_code c && begins closing_brace (behind_run in_code cs)

-- what stands behind `\u` goes on as in `\u{..}`
abbrev pub is_character_code : List ℕ → Bool
is_character_code [] = false
is_character_code (c ∷ cs) = c == opening_brace && is_code cs

-- a backslash before this character, and then this text, is no escape
abbrev pub is_unknown_escape : ℕ → List ℕ → Bool
is_unknown_escape c cs = if c == letter_u then not (is_character_code cs) else is_pattern_escape c
