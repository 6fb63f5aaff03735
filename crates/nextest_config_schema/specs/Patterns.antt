-- What texts are like, as regular expressions of the whole text (ECMA 262).
use Rattle.std.specs.Prelude.{ℕ, List, [], ◌∷◌, ◌++◌, codes, encode_utf8_all, map}
use Rattle.nextest_config_values.specs.Duration.{units}

-- nothing comes next
abbrev pub end : List ℕ
end = codes "(?![\\s\\S])"

-- one of these, or the other
abbrev pub alternatives : List (List ℕ) → List ℕ
alternatives [] = []
alternatives (text ∷ []) = text
alternatives (text ∷ next ∷ texts) = text ++ (codes "|" ++ alternatives (next ∷ texts))

-- ---- versions

-- a number without leading zeros
abbrev pub version_number : List ℕ
version_number = codes "(?:0|[1-9][0-9]*)"

-- a version: two or three numbers
abbrev pub version_pattern : List ℕ
version_pattern = codes "^" ++ (version_number
    ++ (codes "(?:\\." ++ (version_number ++ (codes "){1,2}" ++ end))))

-- ---- durations

-- a character of white space (Unicode, White_Space)
abbrev pub white_space : List ℕ
white_space =
    codes "[\\t-\\r \\u0085\\u00a0\\u1680\\u2000-\\u200a\\u2028\\u2029\\u202f\\u205f\\u3000]"

-- a number, which may have fractions, and white space between its digits
abbrev pub duration_number : List ℕ
duration_number = codes "[0-9]+(?:(?:\\.|" ++ (white_space ++ codes "+)[0-9]+)*")

-- a word of a unit
abbrev pub unit : List ℕ
unit = codes "(?:" ++ (encode_utf8_all (alternatives (map (λ row. row.0) units)) ++ codes ")")

-- a bare 0, or numbers with units, between which white space may stand
abbrev pub duration_pattern : List ℕ
duration_pattern = codes "^(?:0|" ++ (white_space ++ (codes "*(?:" ++ (duration_number
    ++ (white_space ++ (codes "*" ++ (unit ++ (white_space ++ (codes "*)+)" ++ end))))))))

-- ---- paths

-- a part `..`, at the end or before a slash
abbrev pub parent_part : List ℕ
parent_part = codes "\\.\\.(?:/|" ++ (end ++ codes ")")

-- a relative path: it doesn't begin with a slash, and has no part `..`
abbrev pub path_pattern : List ℕ
path_pattern = codes "^(?!/)(?!(?:[\\s\\S]*/)?" ++ (parent_part
    ++ (codes ")[\\s\\S]*" ++ end))
