-- What a text begins with, as a list of characters: spaces, a word, a text, or what else is there.
use Rattle.std.specs.Prelude.{◌≡◌, ℕ, ◌==◌, ◌-◌, ◌&&◌, ◌||◌, nat_le, not, Bool, false, List, [], ◌∷◌, ◌++◌, encode_utf8_all, length, take, Option, Some, None, if◌then◌else◌}
use Rattle.std.specs.Char.{is_ascii_alphabetic, is_ascii_alphanumeric, is_ascii_digit, is_ascii_hexdigit, is_whitespace}
use Rattle.toml_spans.specs.Characters.{carriage_return, double_quote, hyphen, line_feed}
use Rattle.nextest_config_filters.specs.declared.front.Run.{Run}
use Rattle.nextest_config_filters.specs.declared.front.Run.TheVariants as runs

-- ---- characters, by their codes

-- the space U+0020
abbrev pub space : ℕ
space = 32

-- `!`
abbrev pub exclamation_mark : ℕ
exclamation_mark = 33

-- `#`
abbrev pub number_sign : ℕ
number_sign = 35

-- `&`
abbrev pub ampersand : ℕ
ampersand = 38

-- `(` and `)`
abbrev pub opening : ℕ
opening = 40

abbrev pub closing : ℕ
closing = 41

-- `=`
abbrev pub equals_sign : ℕ
equals_sign = 61

-- `,`
abbrev pub comma : ℕ
comma = 44

-- `_`
abbrev pub underscore : ℕ
underscore = 95

-- `{` and `}`
abbrev pub opening_brace : ℕ
opening_brace = 123

abbrev pub closing_brace : ℕ
closing_brace = 125

-- `|`
abbrev pub bar : ℕ
bar = 124

-- ---- fronts

-- the text begins with this character
abbrev pub begins : ℕ → List ℕ → Bool
begins c [] = false
begins c (d ∷ cs) = c == d

-- what stands behind a text at the front, where it begins with that
abbrev pub behind : List ℕ → List ℕ → Option (List ℕ)
behind [] cs = Some cs
behind (t ∷ ts) [] = None
behind (t ∷ ts) (c ∷ cs) = if t == c then behind ts cs else None

-- all characters but the first
abbrev pub without_first : List ℕ → List ℕ
without_first [] = []
without_first (c ∷ cs) = cs

-- the longest front of characters of a kind, and what stands behind it
abbrev pub run : (ℕ → Bool) → List ℕ → List ℕ
run kind [] = []
run kind (c ∷ cs) = if kind c then c ∷ run kind cs else []

abbrev pub behind_run : (ℕ → Bool) → List ℕ → List ℕ
behind_run kind [] = []
behind_run kind (c ∷ cs) = if kind c then behind_run kind cs else c ∷ cs

-- ---- blanks

-- a space that nextest takes for one: U+0020, a line feed, or a carriage return right before one
abbrev pub is_blank : ℕ → List ℕ → Bool
is_blank c cs = c == space || (c == line_feed || (c == carriage_return && begins line_feed cs))

-- what stands behind those at the front
abbrev pub behind_blanks : List ℕ → List ℕ
behind_blanks [] = []
behind_blanks (c ∷ cs) = if is_blank c cs then behind_blanks cs else c ∷ cs

-- the text begins with a space
abbrev pub begins_with_space : List ℕ → Bool
begins_with_space [] = false
begins_with_space (c ∷ cs) = is_whitespace c

-- all spaces at the front are blanks
abbrev pub only_blanks : List ℕ → Bool
only_blanks cs = not (begins_with_space (behind_blanks cs))

-- ---- words

-- a word begins with an ASCII letter, a digit, `_`, or a character beyond ASCII that is no space
abbrev pub begins_word : ℕ → Bool
begins_word c =
    is_ascii_alphanumeric c || (c == underscore || (nat_le 128 c && not (is_whitespace c)))

-- and goes on with these and `-`
abbrev pub in_word : ℕ → Bool
in_word c = begins_word c || c == hyphen

-- ---- keys of platforms

-- a key begins with an ASCII letter or `_`
abbrev pub begins_key : ℕ → Bool
begins_key c = is_ascii_alphabetic c || c == underscore

-- and goes on with these and digits
abbrev pub in_key : ℕ → Bool
in_key c = begins_key c || is_ascii_digit c

-- ---- runs

-- a hexadecimal digit, or `_`
abbrev pub in_code : ℕ → Bool
in_code c = is_ascii_hexdigit c || c == underscore

-- the characters of a run of this kind
abbrev pub in_run : Run → ℕ → Bool
in_run runs.Word = in_word
in_run runs.Unclosed = λ c. not (c == closing)
in_run runs.Code = in_code
in_run runs.Key = in_key
in_run runs.Value = λ c. not (c == double_quote)

-- ---- rests

-- the text ends in this rest
abbrev pub IsRest : List ℕ → List ℕ → Type 0
IsRest cs rest = (front : List ℕ) × (cs ≡ front ++ rest)

-- and begins with this front
abbrev pub IsFront : List ℕ → List ℕ → Type 0
IsFront front cs = (rest : List ℕ) × (cs ≡ front ++ rest)

-- a text up to a rest of it
abbrev pub before : List ℕ → List ℕ → List ℕ
before cs rest = take (length cs - length rest) cs

-- how many bytes characters take
abbrev pub bytes_of : List ℕ → ℕ
bytes_of cs = length (encode_utf8_all cs)

-- ---- what stands at a place

-- `&&` and `||` stand there as one
abbrev pub is_doubled : ℕ → List ℕ → Bool
is_doubled c cs = begins c cs && (c == ampersand || c == bar)

-- the word there, `&&`, `||`, or the one character; nothing at the end
abbrev pub standing : List ℕ → List ℕ
standing [] = []
standing (c ∷ cs) =
    if begins_word c then run in_word (c ∷ cs)
    else if is_doubled c cs then c ∷ c ∷ []
    else c ∷ []

-- and what comes behind it
abbrev pub behind_standing : List ℕ → List ℕ
behind_standing [] = []
behind_standing (c ∷ cs) =
    if begins_word c then behind_run in_word (c ∷ cs)
    else if is_doubled c cs then without_first cs
    else cs
