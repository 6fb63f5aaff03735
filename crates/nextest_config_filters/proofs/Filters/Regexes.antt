-- Regular expressions: where they stand, and what is reported of them.
use Rattle.std.proofs.Common.{◌≡◌, ℕ, List, [], ◌∷◌, ◌++◌, Option, Some, None, refl, sym, ap, ◌∙◌, subst, inl, inr, append_assoc, eqb-true}
use Rattle.std.specs.Prelude.{◌==◌, ◌&&◌, not}
use Rattle.std.proofs.lemmas.Bool.{cases_Bool}
use Rattle.std.specs.Str.{skip_leading_whitespace as behind_spaces}
use Rattle.toml_spans.specs.Characters.{slash}
use Rattle.nextest_config_filters.specs.Filter.Expression.{reading_at}
use Rattle.nextest_config_filters.specs.Filter.Predicate.{predicate_named, takes_none, takes_regex}
use Rattle.nextest_config_filters.specs.Filter.Reading.{Reading}
use Rattle.nextest_config_filters.specs.Filter.Regex.{closed_regex, is_pattern, judged, judged_at, refusal, Regex, regex_at, regex_behind, regex_front, regex_in, unescaped}
use Rattle.nextest_config_filters.specs.Front.{begins, behind_run, in_word, IsRest, only_blanks, opening, run, without_first}
use Rattle.nextest_config_filters.specs.Pieces.{regex_end}
use Rattle.nextest_config_filters.specs.declared.filter.FilterPlace.{FilterPlace}
use Rattle.nextest_config_filters.specs.declared.filter.predicate.Predicate.{Predicate}
use Rattle.nextest_config_filters.specs.declared.filter.reading.Expects.{Expects}
use Rattle.nextest_config_filters.specs.declared.filter.reading.Expects.TheVariants.{Operand, Operator}
use Rattle.nextest_config_filters.proofs.Filters.Arguments.{regex_end_rest}
use Rattle.nextest_config_filters.proofs.Filters.Readings.{Leaves, leaves_rest}
use Rattle.nextest_config_filters.proofs.Fronts.{before_whole, begun, rest_within, run_in, spaces_in, without_first_rest}
use Rattle.nextest_config_filters.proofs.Tests.{second_true}

-- what stands before the end of one, and what stands from there on
pub regex_whole : (cs : List ℕ) → cs ≡ regex_front cs ++ regex_end cs
regex_whole cs = before_whole cs (regex_end cs) (regex_end_rest cs)

-- with both slashes, and what stands behind the second
pub closed_whole : (cs rest : List ℕ) → regex_end cs ≡ slash ∷ rest
    → slash ∷ cs ≡ (slash ∷ (regex_front cs ++ (slash ∷ []))) ++ rest
closed_whole cs rest end =
    ap (λ r. slash ∷ r)
    (regex_whole cs ∙ ap (λ e. regex_front cs ++ e) end ∙ sym (append_assoc (regex_front cs) (slash ∷ []) rest))

-- where nothing is reported of a regular expression, what stands there is read
pub judged_silent : (place : FilterPlace) (expects : Expects) (cs : List ℕ) → refusal (regex_at expects cs) ≡ None
    → judged_at place expects cs ≡ reading_at place expects cs
unfolding judged_at
judged_silent place expects cs silent = ap (λ reported. judged reported (reading_at place expects cs)) silent

-- ---- it stands in the text

abbrev IsRegexIn : List ℕ → Option Regex → Type 0
IsRegexIn cs None = Unit {0}
IsRegexIn cs (Some regex) = IsRest cs (regex.whole ++ regex.behind)

regex_within : (cs inner : List ℕ) (found : Option Regex) → IsRest cs inner → IsRegexIn inner found → IsRegexIn cs found
regex_within cs inner None is left = tt
regex_within cs inner (Some regex) is left = rest_within cs inner (regex.whole ++ regex.behind) is left

closed_in : (cs end : List ℕ) → regex_end cs ≡ end → IsRegexIn (slash ∷ cs) (closed_regex cs end)
closed_in cs [] is = tt
closed_in cs (c ∷ rest) is = elim (cases_Bool (c == slash)) [
  | inl same ↦ rw same ([], closed_whole cs rest (is ∙ ap (λ d. d ∷ rest) (eqb-true c slash same)))
  | inr other ↦ rw other tt
]

argument_in : (opened : List ℕ) → IsRegexIn opened (regex_in opened)
argument_in opened =
    let cs = behind_spaces opened in
    let inner = without_first cs in
    elim (cases_Bool (only_blanks opened && begins slash cs)) [
      | inl is ↦ rw is
          (regex_within opened cs (closed_regex inner (regex_end inner)) (spaces_in opened)
          (subst (λ r. IsRegexIn r (closed_regex inner (regex_end inner)))
          (sym (begun slash cs (second_true (only_blanks opened) (begins slash cs) is))) (closed_in inner (regex_end inner) refl)))
      | inr other ↦ rw other tt
    ]

named_in : (predicate : Option Predicate) (cs : List ℕ) → IsRegexIn cs (regex_behind predicate cs)
named_in None cs = tt
named_in (Some predicate) cs =
    elim (cases_Bool (begins opening cs && (not (takes_none predicate) && takes_regex predicate))) [
      | inl is ↦ rw is
          (regex_within cs (without_first cs) (regex_in (without_first cs)) (without_first_rest cs) (argument_in (without_first cs)))
      | inr other ↦ rw other tt
    ]

regex_in_text : (expects : Expects) (cs : List ℕ) → IsRegexIn cs (regex_at expects cs)
unfolding regex_at
regex_in_text Operand cs =
    let text = behind_spaces cs in
    let rest = behind_run in_word text in
    let predicate = predicate_named (run in_word text) in
    regex_within cs (behind_spaces rest) (regex_behind predicate (behind_spaces rest))
    (rest_within cs text (behind_spaces rest) (spaces_in cs)
    (rest_within text rest (behind_spaces rest) (run_in in_word text) (spaces_in rest)))
    (named_in predicate (behind_spaces rest))
regex_in_text Operator cs = tt

leaves_either : (cs : List ℕ) (found : Option Regex) (reading : Reading) → IsRegexIn cs found → Leaves cs reading
    → Leaves cs (judged (refusal found) reading)
leaves_either cs None reading is left = left
leaves_either cs (Some regex) reading is left = elim (cases_Bool (is_pattern (unescaped regex.text))) [
  | inl fine ↦ rw fine left
  | inr refused ↦ rw refused is
]

pub leaves_judged : (place : FilterPlace) (expects : Expects) (cs : List ℕ) → Leaves cs (judged_at place expects cs)
unfolding judged_at
leaves_judged place expects cs =
    leaves_either cs (regex_at expects cs) (reading_at place expects cs) (regex_in_text expects cs) (leaves_rest place expects cs)
