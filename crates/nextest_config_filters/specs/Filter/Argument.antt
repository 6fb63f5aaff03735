-- The argument of a predicate, from behind its parenthesis on.
use Rattle.std.specs.Prelude.{ℕ, ◌==◌, ◌&&◌, ◌||◌, not, Bool, false, List, [], ◌∷◌, length, drop, codes, nat_eq, if◌then◌else◌}
use Rattle.std.specs.Char.{is_ascii_alphabetic}
use Rattle.std.specs.Cmp.Lexicographic.{pointwise}
use Rattle.std.specs.List.{list_any}
use Rattle.std.specs.Str.{drop_trailing_whitespace as without_spaces_behind, skip_leading_whitespace as behind_spaces}
use Rattle.toml_spans.specs.Characters.{backslash, slash}
use Rattle.nextest_config_filters.specs.Escape.{letter_u}
use Rattle.nextest_config_filters.specs.Filter.Predicate.{takes_none, takes_regex}
use Rattle.nextest_config_filters.specs.Filter.Reading.{fault_at, goes_on, not_closed, Reading, reports, unexpected, unjudged}
use Rattle.nextest_config_filters.specs.Front.{before, begins, behind_run, closing, comma, number_sign, only_blanks, opening, run, without_first}
use Rattle.nextest_config_filters.specs.Pieces.{has_before_end, is_brace, is_opening, regex_end, text_end}
use Rattle.nextest_config_filters.specs.declared.fault.Expected.TheVariants as expect
use Rattle.nextest_config_filters.specs.declared.fault.FilterFlaw.{FilterFlaw}
use Rattle.nextest_config_filters.specs.declared.fault.FilterFlaw.TheVariants as flaws
use Rattle.nextest_config_filters.specs.declared.filter.predicate.Predicate.{Predicate}
use Rattle.nextest_config_filters.specs.declared.filter.predicate.Predicate.TheVariants as predicates
use Rattle.nextest_config_filters.specs.declared.filter.reading.Expects.TheVariants.{Operator}

-- ---- no argument

-- what stands before the parenthesis that closes: nothing, or characters that are reported
abbrev pub read_nothing : Predicate → List ℕ → List ℕ → List ℕ → Reading
read_nothing predicate [] cs rest = goes_on Operator rest
read_nothing predicate (c ∷ what) cs rest =
    reports (fault_at (c ∷ what) (drop (length (c ∷ what)) cs) (flaws.UnwantedArgument predicate))

-- the first `)` ends it; what stands before that, without spaces around it, is one too many
abbrev pub closed_nothing : Predicate → List ℕ → List ℕ → List ℕ → Reading
closed_nothing predicate opened cs [] = reports (not_closed opened)
closed_nothing predicate opened cs (c ∷ rest) =
    read_nothing predicate (without_spaces_behind (run (λ d. not (d == closing)) cs)) cs rest

abbrev pub read_no_argument : Predicate → List ℕ → Reading
read_no_argument predicate opened =
    let cs = behind_spaces opened in
    closed_nothing predicate opened cs (behind_run (λ d. not (d == closing)) cs)

-- ---- a text

-- one of the two words that `platform` takes
abbrev pub is_platform_word : List ℕ → Bool
is_platform_word cs = pointwise nat_eq cs (codes "host") || pointwise nat_eq cs (codes "target")

-- it begins with an ASCII letter, has no backslash, and is neither of these words
abbrev pub is_other_word : List ℕ → Bool
is_other_word [] = false
is_other_word (c ∷ cs) =
    is_ascii_alphabetic c
    && (not (list_any (λ d. d == backslash) (c ∷ cs)) && not (is_platform_word (c ∷ cs)))

-- the front of the text that leads up to its end
abbrev pub text_front : List ℕ → List ℕ
text_front cs = before cs (text_end cs)

-- `platform` with this argument, and no spaces behind it
abbrev pub is_no_platform : Predicate → List ℕ → Bool
is_no_platform predicates.Platform argument = is_other_word argument
is_no_platform predicate argument = false

-- what is wrong with a backslash before this character, where it escapes nothing
abbrev pub escape_flaw : ℕ → FilterFlaw
escape_flaw c = if c == letter_u then flaws.UnknownCode else flaws.UnknownEscape

-- a backslash that escapes nothing, with the character behind it
abbrev pub unknown_escape : List ℕ → Reading
unknown_escape [] = unjudged
unknown_escape (c ∷ cs) = reports (fault_at (backslash ∷ c ∷ []) cs (escape_flaw c))

-- the text closes before the rest
abbrev pub closed_text : Predicate → List ℕ → List ℕ → Reading
closed_text predicate cs rest =
    let argument = without_spaces_behind (text_front cs) in
    if is_no_platform predicate argument
    then reports (fault_at argument (drop (length argument) cs)
    (flaws.Unexpected expect.HostOrTarget))
    else if has_before_end is_opening cs then unjudged
    else goes_on Operator rest

-- a comma, unless it may be one of a part of the text
abbrev pub second_argument : Predicate → Bool → List ℕ → Reading
second_argument predicate in_part rest =
    if in_part then unjudged
    else reports (fault_at (comma ∷ []) rest (flaws.SecondArgument predicate))

-- the character that ends the text, before the rest
abbrev pub met_at_end : Predicate → List ℕ → ℕ → List ℕ → Reading
met_at_end predicate cs c rest =
    if c == backslash then unknown_escape rest
    else if c == closing then closed_text predicate cs rest
    else second_argument predicate (has_before_end is_opening cs || has_before_end is_brace cs) rest

-- what ends the text
abbrev pub ended_text : Predicate → List ℕ → List ℕ → List ℕ → Reading
ended_text predicate opened cs [] = reports (not_closed opened)
ended_text predicate opened cs (c ∷ rest) = met_at_end predicate cs c rest

abbrev pub read_text : Predicate → List ℕ → List ℕ → Reading
read_text predicate opened cs = ended_text predicate opened cs (text_end cs)

-- ---- a regular expression

-- what stands behind the second `/`, and behind spaces
abbrev pub behind_regex : List ℕ → List ℕ → Reading
behind_regex opened [] = reports (not_closed opened)
behind_regex opened (c ∷ cs) =
    if c == closing then goes_on Operator cs else unexpected expect.ClosingOfRegex (c ∷ cs)

abbrev pub ended_regex : List ℕ → List ℕ → List ℕ → Reading
ended_regex opened cs [] = reports (fault_at (slash ∷ []) cs flaws.RegexNotClosed)
ended_regex opened cs (c ∷ rest) =
    if c == backslash then unjudged else behind_regex opened (behind_spaces rest)

abbrev pub read_regex : List ℕ → List ℕ → Reading
read_regex opened cs = ended_regex opened cs (regex_end cs)

-- ---- either

-- an argument from its first character on, where that is no space
abbrev pub read_begun : Predicate → List ℕ → List ℕ → Reading
read_begun predicate opened cs =
    if begins slash cs && takes_regex predicate then read_regex opened (without_first cs)
    else read_text predicate opened cs

abbrev pub read_some_argument : Predicate → List ℕ → Reading
read_some_argument predicate opened =
    if begins closing opened
    then reports (fault_at (opening ∷ closing ∷ []) (without_first opened)
    (flaws.NoArgument predicate))
    else let cs = behind_spaces opened in
    if not (only_blanks opened) && (begins slash cs || begins number_sign cs) then unjudged
    else read_begun predicate opened cs

unfoldable pub read_argument : Predicate → List ℕ → Reading
read_argument predicate opened =
    if takes_none predicate then read_no_argument predicate opened
    else read_some_argument predicate opened
