-- The regular expressions of filters: where one stands, and whether it is one.
use Rattle.std.specs.Prelude.{ℕ, ◌==◌, ◌&&◌, nat_le, not, Bool, false, List, [], ◌∷◌, ◌++◌, Option, Some, None, if◌then◌else◌}
use Rattle.std.specs.Str.{chars, skip_leading_whitespace as behind_spaces}
use Rattle.regex_syntax.specs.Brackets.{Nested}
use Rattle.regex_syntax.specs.Grammar.{Names, read}
use Rattle.regex_syntax.specs.Verdict.{default_config}
use Rattle.toml_spans.specs.Characters.{backslash, slash}
use Rattle.nextest_config_filters.specs.Filter.Expression.{reading_at}
use Rattle.nextest_config_filters.specs.Filter.Predicate.{predicate_named, takes_none, takes_regex}
use Rattle.nextest_config_filters.specs.Filter.Reading.{fault_at, FaultAt, Reading, reports}
use Rattle.nextest_config_filters.specs.Front.{before, begins, behind_run, in_word, only_blanks, opening, run, without_first}
use Rattle.nextest_config_filters.specs.Pieces.{regex_end}
use Rattle.nextest_config_filters.specs.declared.fault.FilterFlaw.TheVariants as flaws
use Rattle.nextest_config_filters.specs.declared.filter.FilterPlace.{FilterPlace}
use Rattle.nextest_config_filters.specs.declared.filter.predicate.Predicate.{Predicate}
use Rattle.nextest_config_filters.specs.declared.filter.reading.Expects.{Expects}
use Rattle.nextest_config_filters.specs.declared.filter.reading.Expects.TheVariants.{Operand, Operator}
use Rattle.nextest_config_filters.specs.declared.filter.regex.Regex.{Regex as OwnRegex}

-- a regular expression: with both its slashes, what stands between them, and what comes behind it
pub record Regex : Type 0 where
  pub whole : List ℕ
  pub text : List ℕ
  pub behind : List ℕ

abbrev pub regex_view : OwnRegex → Regex
regex_view regex = record {
  whole = chars regex.whole.now;
  text = chars regex.text.now;
  behind = chars regex.behind.now;
}

-- ---- where one stands

-- from behind the first slash on, what stands before the end
abbrev pub regex_front : List ℕ → List ℕ
regex_front cs = before cs (regex_end cs)

-- the end has to be a second slash
abbrev pub closed_regex : List ℕ → List ℕ → Option Regex
closed_regex cs [] = None
closed_regex cs (c ∷ rest) =
    if c == slash
    then Some (record {
      whole = slash ∷ (regex_front cs ++ (slash ∷ []));
      text = regex_front cs;
      behind = rest;
    })
    else None

-- an argument that is one, from behind its parenthesis on
abbrev pub regex_in : List ℕ → Option Regex
regex_in opened =
    let cs = behind_spaces opened in
    if only_blanks opened && begins slash cs
    then closed_regex (without_first cs) (regex_end (without_first cs))
    else None

-- behind the name of a predicate, and behind spaces
abbrev pub regex_behind : Option Predicate → List ℕ → Option Regex
regex_behind None cs = None
regex_behind (Some predicate) cs =
    if begins opening cs && (not (takes_none predicate) && takes_regex predicate)
    then regex_in (without_first cs)
    else None

-- of a predicate, behind spaces
abbrev pub regex_of : List ℕ → Option Regex
regex_of cs =
    regex_behind (predicate_named (run in_word cs)) (behind_spaces (behind_run in_word cs))

-- of what is read at a place, where this is expected
unfoldable pub regex_at : Expects → List ℕ → Option Regex
regex_at Operand cs = regex_of (behind_spaces cs)
regex_at Operator cs = None

-- ---- whether it is one

-- without the backslash of each `\/`
abbrev pub unescaped : List ℕ → List ℕ
unescaped [] = []
unescaped (c ∷ cs) = if c == backslash && begins slash cs then unescaped cs else c ∷ unescaped cs

-- it is read, and nests no deeper than 250
abbrev pub nests_well : {A : Type 0} → Option (Nested A × Names) → Bool
nests_well None = false
nests_well (Some (re, names)) = nat_le re.depth 250

-- a pattern, by the grammar of the regex crate
unfoldable pub is_pattern : List ℕ → Bool
is_pattern cs = nests_well (read default_config cs)

-- ---- what is reported

-- a regular expression that is none
abbrev pub refusal : Option Regex → Option FaultAt
refusal None = None
refusal (Some regex) =
    if is_pattern (unescaped regex.text) then None
    else Some (fault_at regex.whole regex.behind flaws.InvalidRegex)

abbrev pub judged : Option FaultAt → Reading → Reading
judged None reading = reading
judged (Some reported) reading = reports reported

-- what is read at a place, where this is expected: first of all a regular expression that is none
unfoldable pub judged_at : FilterPlace → Expects → List ℕ → Reading
judged_at place expects cs = judged (refusal (regex_at expects cs)) (reading_at place expects cs)
