-- What is read of a filter at a place, in a state.
use Rattle.std.specs.Prelude.{ℕ, ◌==◌, ◌&&◌, ◌||◌, not, Bool, true, false, List, [], ◌∷◌, codes, encode_utf8_all, Option, Some, None, if◌then◌else◌}
use Rattle.std.specs.Str.{skip_leading_whitespace as behind_spaces}
use Rattle.toml_spans.specs.Characters.{hyphen, plus_sign}
use Rattle.nextest_config_values.specs.NearestWord.{is_same}
use Rattle.nextest_config_filters.specs.Filter.Argument.{read_argument}
use Rattle.nextest_config_filters.specs.Filter.Predicate.{behind_nots, joined_behind, predicate_named}
use Rattle.nextest_config_filters.specs.Filter.Reading.{closes, ends, fault_at, goes_on, opens, Reading, reports, unexpected, unjudged}
use Rattle.nextest_config_filters.specs.Front.{ampersand, bar, begins, begins_word, behind_run, closing, exclamation_mark, in_word, is_doubled, number_sign, opening, run, standing, without_first}
use Rattle.nextest_config_filters.specs.declared.fault.Expected.TheVariants as expect
use Rattle.nextest_config_filters.specs.declared.fault.FilterFlaw.{FilterFlaw}
use Rattle.nextest_config_filters.specs.declared.fault.FilterFlaw.TheVariants as flaws
use Rattle.nextest_config_filters.specs.declared.filter.FilterPlace.{FilterPlace}
use Rattle.nextest_config_filters.specs.declared.filter.FilterPlace.TheVariants as places
use Rattle.nextest_config_filters.specs.declared.filter.predicate.Predicate.{Predicate}
use Rattle.nextest_config_filters.specs.declared.filter.predicate.Predicate.TheVariants as predicates
use Rattle.nextest_config_filters.specs.declared.filter.reading.Expects.{Expects}
use Rattle.nextest_config_filters.specs.declared.filter.reading.Expects.TheVariants.{Operand, Operator}

-- ---- predicates

-- `default` in a default filter
abbrev pub asks_for_itself : FilterPlace → Predicate → Bool
asks_for_itself places.DefaultFilter predicates.Default = true
asks_for_itself place predicate = false

-- the name of a predicate and what stands behind it, with what stands behind its parenthesis
abbrev pub read_opened : FilterPlace → Predicate → List ℕ → List ℕ → List ℕ → Reading
read_opened place predicate name rest opened =
    if asks_for_itself place predicate then reports (fault_at name rest flaws.AsksForItself)
    else read_argument predicate opened

-- the name of a predicate and what stands behind it, with that behind spaces
abbrev pub read_named : FilterPlace → Predicate → List ℕ → List ℕ → List ℕ → Reading
read_named place predicate name rest cs =
    if begins opening cs then read_opened place predicate name rest (without_first cs)
    else reports (record {
      what = name;
      behind = rest;
      flaw = flaws.Unexpected (expect.Opening predicate);
      found = standing cs;
    })

-- ---- words

-- a word is this one but for the case of ASCII letters
abbrev pub is_cased : List ℕ → List ℕ → Bool
is_cased word text = is_same (encode_utf8_all word) text

-- `not`, `and` or `or`
abbrev pub is_operator_word : List ℕ → Bool
is_operator_word word =
    is_cased word (codes "not") || (is_cased word (codes "and") || is_cased word (codes "or"))

-- what is wrong with a word, by what stands behind it
abbrev pub flaw_of_word : List ℕ → List ℕ → FilterFlaw
flaw_of_word word rest =
    if is_operator_word word then flaws.Unexpected expect.Expression
    else if begins opening (behind_spaces rest) then flaws.UnknownPredicate
    else flaws.Unexpected expect.PredicateAndArgument

-- a word in place of an expression that is no name, and isn't joined of `not`
abbrev pub other_word : List ℕ → List ℕ → Reading
other_word word rest = reports (fault_at word rest (flaw_of_word word rest))

-- a word that is no name, by what is joined to `not`
abbrev pub read_unnamed : Option (List ℕ) → List ℕ → List ℕ → Reading
read_unnamed None word rest = other_word word rest
read_unnamed (Some following) word rest = goes_on Operand (behind_nots following)

-- a word by the predicate of this name
abbrev pub read_word_as : FilterPlace → Option Predicate → List ℕ → List ℕ → List ℕ → Reading
read_word_as place None cs word rest = read_unnamed (joined_behind (codes "not") cs) word rest
read_word_as place (Some predicate) cs word rest =
    read_named place predicate word rest (behind_spaces rest)

-- a word in place of an expression
abbrev pub read_word : FilterPlace → List ℕ → Reading
read_word place cs =
    let word = run in_word cs in
    read_word_as place (predicate_named word) cs word (behind_run in_word cs)

-- ---- the two states

-- where an expression has to begin, behind spaces
abbrev pub read_operand : FilterPlace → List ℕ → Reading
read_operand place [] = unexpected expect.Expression []
read_operand place (c ∷ cs) =
    if begins_word c then read_word place (c ∷ cs)
    else if c == exclamation_mark then goes_on Operand cs
    else if c == opening then opens cs
    else if c == number_sign then unjudged
    else unexpected expect.Expression (c ∷ cs)

-- by what is joined to `and`, and to `or`
abbrev pub read_joined : Option (List ℕ) → Option (List ℕ) → List ℕ → Reading
read_joined (Some rest) behind_or cs = goes_on Operand rest
read_joined None (Some rest) cs = goes_on Operand rest
read_joined None None cs = unexpected expect.Operator cs

-- a word in place of an operator
abbrev pub read_operator_word : List ℕ → Reading
read_operator_word cs =
    read_joined (joined_behind (codes "and") cs) (joined_behind (codes "or") cs) cs

-- one of `&`, `|`, `+`, `-`
abbrev pub is_sign : ℕ → Bool
is_sign c = c == ampersand || (c == bar || (c == plus_sign || c == hyphen))

-- a character in place of an operator that begins no word, and what stands behind it
abbrev pub read_sign : ℕ → List ℕ → Reading
read_sign c cs =
    if is_sign c && not (is_doubled c cs) then goes_on Operand cs
    else if c == closing then closes cs
    else if c == number_sign then unjudged
    else unexpected expect.Operator (c ∷ cs)

-- where an operator has to stand, or the end, behind spaces
abbrev pub read_operator : List ℕ → Reading
read_operator [] = ends
read_operator (c ∷ cs) =
    if begins_word c then read_operator_word (c ∷ cs) else read_sign c cs

-- what is read at a place, where this is expected
unfoldable pub reading_at : FilterPlace → Expects → List ℕ → Reading
reading_at place Operand cs = read_operand place (behind_spaces cs)
reading_at place Operator cs = read_operator (behind_spaces cs)
