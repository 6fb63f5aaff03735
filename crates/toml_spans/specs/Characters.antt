-- Characters that rules and printed texts name, by their codes; in UTF-8 each but the last is one
-- byte with the same code.
use Rattle.std.specs.Prelude.{ℕ}

-- U+0000, the null character
abbrev pub nul : ℕ
nul = 0

-- U+0009, the tab
abbrev pub tab : ℕ
tab = 9

-- U+000A, the line feed
abbrev pub line_feed : ℕ
line_feed = 10

-- U+000D, the carriage return
abbrev pub carriage_return : ℕ
carriage_return = 13

-- U+0022, `"`
abbrev pub double_quote : ℕ
double_quote = 34

-- U+002B, `+`
abbrev pub plus_sign : ℕ
plus_sign = 43

-- U+002D, `-`
abbrev pub hyphen : ℕ
hyphen = 45

-- U+002E, `.`
abbrev pub dot : ℕ
dot = 46

-- U+002F, `/`
abbrev pub slash : ℕ
slash = 47

-- U+0030, `0`
abbrev pub digit_zero : ℕ
digit_zero = 48

-- U+003A, `:`
abbrev pub colon : ℕ
colon = 58

-- U+005C, `\`
abbrev pub backslash : ℕ
backslash = 92

-- U+00B5, the micro sign, of two bytes
abbrev pub micro_sign : ℕ
micro_sign = 181
