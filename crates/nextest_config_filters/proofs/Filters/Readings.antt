-- What is read is a front of a text, of one character at least.
use Rattle.std.proofs.Common.{◌≡◌, ℕ, ◌<◌, Bool, false, List, [], ◌∷◌, ◌++◌, length, drop, Option, Some, None, refl, sym, ap, ◌∙◌, subst, inl, inr, arith, eqb-true}
use Rattle.std.specs.Prelude.{◌==◌, ◌&&◌, ◌||◌, not, codes, if◌then◌else◌}
use Rattle.std.proofs.lemmas.Bool.{cases_Bool}
use Rattle.std.specs.Str.{drop_trailing_whitespace as without_spaces_behind, skip_leading_whitespace as behind_spaces}
use Rattle.toml_spans.specs.Characters.{backslash, slash}
use Rattle.nextest_config_filters.specs.Filter.Argument.{behind_regex, closed_nothing, closed_text, ended_regex, ended_text, is_no_platform, met_at_end, read_argument, read_begun, read_no_argument, read_nothing, read_regex, read_some_argument, read_text, second_argument, text_front, unknown_escape}
use Rattle.nextest_config_filters.specs.Filter.Expression.{asks_for_itself, is_sign, read_joined, read_named, read_opened, read_operand, read_operator, read_operator_word, read_sign, read_unnamed, read_word, read_word_as, reading_at}
use Rattle.nextest_config_filters.specs.Filter.Predicate.{behind_nots, is_joined, joined_behind, joined_rest, predicate_named, takes_none, takes_regex}
use Rattle.nextest_config_filters.specs.Filter.Reading.{closes, ends, fault_at, goes_on, not_closed, opens, Reading, reports, unexpected, unjudged}
use Rattle.nextest_config_filters.specs.Front.{begins, begins_word, behind, behind_run, closing, comma, exclamation_mark, in_word, is_doubled, IsFront, IsRest, number_sign, only_blanks, opening, run, standing, without_first}
use Rattle.nextest_config_filters.specs.Pieces.{ends_text, has_before_end, is_brace, is_opening, regex_end, text_end}
use Rattle.nextest_config_filters.specs.declared.fault.Expected.{Expected}
use Rattle.nextest_config_filters.specs.declared.fault.Expected.TheVariants as expect
use Rattle.nextest_config_filters.specs.declared.fault.FilterFlaw.TheVariants as flaws
use Rattle.nextest_config_filters.specs.declared.filter.FilterPlace.{FilterPlace}
use Rattle.nextest_config_filters.specs.declared.filter.predicate.Predicate.{Predicate}
use Rattle.nextest_config_filters.specs.declared.filter.reading.Expects.{Expects}
use Rattle.nextest_config_filters.specs.declared.filter.reading.Expects.TheVariants.{Operand, Operator}
use Rattle.nextest_config_filters.proofs.Characters.{behind_whole}
use Rattle.nextest_config_filters.proofs.Filters.Arguments.{BeginsAsEnd, regex_end_rest, text_end_rest, text_ends_at, text_front_whole}
use Rattle.nextest_config_filters.proofs.Fronts.{begun, front_dropped, front_without_spaces, one_in, past, rest_fits, rest_within, run_whole, spaces_in, standing_whole}
use Rattle.nextest_config_filters.proofs.Tests.{by_test, either, first_true}

-- what is read leaves a rest of the characters: behind one at least where it goes on, and behind what
-- is reported
abbrev pub Leaves : List ℕ → Reading → Type 0
Leaves cs (goes_on expects rest) = IsRest cs rest × (length rest < length cs)
Leaves cs (opens rest) = IsRest cs (opening ∷ rest)
Leaves cs (closes rest) = IsRest cs (closing ∷ rest)
Leaves cs ends = Unit {0}
Leaves cs unjudged = Unit {0}
Leaves cs (reports reported) = IsRest cs (reported.what ++ reported.behind)

-- ---- rests of rests

pub leaves_within : (cs inner : List ℕ) (reading : Reading) → IsRest cs inner → Leaves inner reading → Leaves cs reading
leaves_within cs inner (goes_on expects rest) is (left, shorter) =
    let long = rest_fits cs inner is in
    (rest_within cs inner rest is left, omega arith)
leaves_within cs inner (opens rest) is left = rest_within cs inner (opening ∷ rest) is left
leaves_within cs inner (closes rest) is left = rest_within cs inner (closing ∷ rest) is left
leaves_within cs inner ends is left = tt
leaves_within cs inner unjudged is left = tt
leaves_within cs inner (reports reported) is left = rest_within cs inner (reported.what ++ reported.behind) is left

leaves_unexpected : (expected : Expected) (cs : List ℕ) → Leaves cs (unexpected expected cs)
leaves_unexpected expected cs = ([], sym (standing_whole cs))

-- ---- arguments

module _ (predicate : Predicate) (opened : List ℕ) where
  leaves_open : Leaves (opening ∷ opened) (reports (not_closed opened))
  leaves_open = ([], refl)

  inside : (rest : List ℕ) → IsRest opened rest → IsRest (opening ∷ opened) rest
  inside rest is = rest_within (opening ∷ opened) opened rest (one_in opening opened) is

  leaves_nothing : (argument cs rest : List ℕ) (c : ℕ) → IsRest opened cs → IsFront argument cs → IsRest cs (c ∷ rest)
      → Leaves (opening ∷ opened) (read_nothing predicate argument cs rest)
  leaves_nothing [] cs rest c is front left =
      past (opening ∷ opened) rest c (inside (c ∷ rest) (rest_within opened cs (c ∷ rest) is left))
  leaves_nothing (a ∷ argument) cs rest c is front left =
      inside ((a ∷ argument) ++ drop (length (a ∷ argument)) cs)
      (rest_within opened cs ((a ∷ argument) ++ drop (length (a ∷ argument)) cs) is ([], front_dropped (a ∷ argument) cs front))

  leaves_closed_nothing : (cs end : List ℕ) → IsRest opened cs → end ≡ behind_run (λ d. not (d == closing)) cs
      → Leaves (opening ∷ opened) (closed_nothing predicate opened cs end)
  leaves_closed_nothing cs [] is end_is = leaves_open
  leaves_closed_nothing cs (c ∷ rest) is end_is =
      let kind = λ (d : ℕ). not (d == closing) in
      let whole : cs ≡ run kind cs ++ (c ∷ rest) = sym (run_whole kind cs) ∙ ap (λ r. run kind cs ++ r) (sym end_is) in
      leaves_nothing (without_spaces_behind (run kind cs)) cs rest c is
      (front_without_spaces cs (run kind cs) (c ∷ rest) whole) (run kind cs, whole)

  leaves_no_argument : Leaves (opening ∷ opened) (read_no_argument predicate opened)
  leaves_no_argument =
      leaves_closed_nothing (behind_spaces opened) (behind_run (λ d. not (d == closing)) (behind_spaces opened)) (spaces_in opened) refl

  -- a regular expression
  leaves_behind_regex : (cs : List ℕ) → IsRest opened cs → Leaves (opening ∷ opened) (behind_regex opened cs)
  leaves_behind_regex [] is = leaves_open
  leaves_behind_regex (c ∷ cs) is =
      either (Leaves (opening ∷ opened)) (c == closing) (goes_on Operator cs) (unexpected expect.ClosingOfRegex (c ∷ cs))
      (past (opening ∷ opened) cs c (inside (c ∷ cs) is))
      (leaves_within (opening ∷ opened) (c ∷ cs) (unexpected expect.ClosingOfRegex (c ∷ cs)) (inside (c ∷ cs) is)
      (leaves_unexpected expect.ClosingOfRegex (c ∷ cs)))

  leaves_regex : (cs end : List ℕ) → IsRest opened (slash ∷ cs) → IsRest cs end
      → Leaves (opening ∷ opened) (ended_regex opened cs end)
  leaves_regex cs [] is end_in = inside (slash ∷ cs) is
  leaves_regex cs (c ∷ rest) is end_in =
      either (Leaves (opening ∷ opened)) (c == backslash) unjudged (behind_regex opened (behind_spaces rest)) tt
      (leaves_behind_regex (behind_spaces rest)
      (rest_within opened (slash ∷ cs) (behind_spaces rest) is
      (rest_within (slash ∷ cs) cs (behind_spaces rest) (one_in slash cs)
      (rest_within cs (c ∷ rest) (behind_spaces rest) end_in
      (rest_within (c ∷ rest) rest (behind_spaces rest) (one_in c rest) (spaces_in rest))))))

  -- a text
  leaves_escape : (cs : List ℕ) → IsRest opened (backslash ∷ cs) → Leaves (opening ∷ opened) (unknown_escape cs)
  leaves_escape [] is = tt
  leaves_escape (c ∷ cs) is = inside (backslash ∷ c ∷ cs) is

  leaves_closed : (cs rest : List ℕ) (c : ℕ) → IsRest opened cs → IsRest cs (c ∷ rest)
      → Leaves (opening ∷ opened) (closed_text predicate cs rest)
  leaves_closed cs rest c is end_in =
      let argument = without_spaces_behind (text_front cs) in
      let front = front_without_spaces cs (text_front cs) (text_end cs) (text_front_whole cs) in
      either (Leaves (opening ∷ opened)) (is_no_platform predicate argument)
      (reports (fault_at argument (drop (length argument) cs) (flaws.Unexpected expect.HostOrTarget)))
      (if has_before_end is_opening cs then unjudged else goes_on Operator rest)
      (inside (argument ++ drop (length argument) cs)
      (rest_within opened cs (argument ++ drop (length argument) cs) is ([], front_dropped argument cs front)))
      (either (Leaves (opening ∷ opened)) (has_before_end is_opening cs) unjudged (goes_on Operator rest) tt
      (past (opening ∷ opened) rest c (inside (c ∷ rest) (rest_within opened cs (c ∷ rest) is end_in))))

  leaves_comma : (in_part : Bool) (rest : List ℕ) → IsRest opened (comma ∷ rest)
      → Leaves (opening ∷ opened) (second_argument predicate in_part rest)
  leaves_comma in_part rest is =
      either (Leaves (opening ∷ opened)) in_part unjudged (reports (fault_at (comma ∷ []) rest (flaws.SecondArgument predicate))) tt
      (inside (comma ∷ rest) is)

  at_comma : (c : ℕ) (rest : List ℕ) → BeginsAsEnd ends_text (c ∷ rest) → (c == backslash) ≡ false → (c == closing) ≡ false → c ≡ comma
  at_comma c rest (inl is) no_backslash no_closing = cc (is, no_backslash)
  at_comma c rest (inr is) no_backslash no_closing = eqb-true c comma (rw no_closing at is)

  leaves_met : (cs rest : List ℕ) (c : ℕ) → IsRest opened cs → IsRest cs (c ∷ rest) → BeginsAsEnd ends_text (c ∷ rest)
      → Leaves (opening ∷ opened) (met_at_end predicate cs c rest)
  leaves_met cs rest c is end_in ending =
      let here = rest_within opened cs (c ∷ rest) is end_in in
      let in_part = has_before_end is_opening cs || has_before_end is_brace cs in
      by_test (Leaves (opening ∷ opened)) (c == backslash) (unknown_escape rest)
      (if c == closing then closed_text predicate cs rest else second_argument predicate in_part rest)
      (λ escapes. leaves_escape rest (subst (λ e. IsRest opened (e ∷ rest)) (eqb-true c backslash escapes) here))
      (λ no_backslash. by_test (Leaves (opening ∷ opened)) (c == closing) (closed_text predicate cs rest)
      (second_argument predicate in_part rest)
      (λ closes. leaves_closed cs rest c is end_in)
      (λ no_closing. leaves_comma in_part rest
      (subst (λ e. IsRest opened (e ∷ rest)) (at_comma c rest ending no_backslash no_closing) here)))

  leaves_ended : (cs end : List ℕ) → IsRest opened cs → text_end cs ≡ end
      → Leaves (opening ∷ opened) (ended_text predicate opened cs end)
  leaves_ended cs [] is end_is = leaves_open
  leaves_ended cs (c ∷ rest) is end_is =
      leaves_met cs rest c is (subst (IsRest cs) end_is (text_end_rest cs)) (text_ends_at cs c rest end_is)

  -- either
  leaves_begun : (cs : List ℕ) → IsRest opened cs → Leaves (opening ∷ opened) (read_begun predicate opened cs)
  leaves_begun cs is =
      by_test (Leaves (opening ∷ opened)) (begins slash cs && takes_regex predicate) (read_regex opened (without_first cs))
      (read_text predicate opened cs)
      (λ regex. leaves_regex (without_first cs) (regex_end (without_first cs))
      (subst (IsRest opened) (begun slash cs (first_true (begins slash cs) (takes_regex predicate) regex)) is)
      (regex_end_rest (without_first cs)))
      (λ text. leaves_ended cs (text_end cs) is refl)

  leaves_some : Leaves (opening ∷ opened) (read_some_argument predicate opened)
  leaves_some =
      let cs = behind_spaces opened in
      by_test (Leaves (opening ∷ opened)) (begins closing opened)
      (reports (fault_at (opening ∷ closing ∷ []) (without_first opened) (flaws.NoArgument predicate)))
      (if not (only_blanks opened) && (begins slash cs || begins number_sign cs) then unjudged
      else read_begun predicate opened cs)
      (λ closed. ([], ap (λ r. opening ∷ r) (begun closing opened closed)))
      (λ other. either (Leaves (opening ∷ opened)) (not (only_blanks opened) && (begins slash cs || begins number_sign cs)) unjudged
      (read_begun predicate opened cs) tt (leaves_begun cs (spaces_in opened)))

  pub leaves_argument : Leaves (opening ∷ opened) (read_argument predicate opened)
  unfolding read_argument
  leaves_argument =
      either (Leaves (opening ∷ opened)) (takes_none predicate) (read_no_argument predicate opened)
      (read_some_argument predicate opened) leaves_no_argument leaves_some

-- ---- words

leaves_named : (place : FilterPlace) (predicate : Predicate) (name rest text : List ℕ)
    → IsRest rest text → Leaves (name ++ rest) (read_named place predicate name rest text)
leaves_named place predicate name rest text is =
    by_test (Leaves (name ++ rest)) (begins opening text) (read_opened place predicate name rest (without_first text))
    (reports (record { what = name; behind = rest; flaw = flaws.Unexpected (expect.Opening predicate); found = standing text }))
    (λ opens. either (Leaves (name ++ rest)) (asks_for_itself place predicate) (reports (fault_at name rest flaws.AsksForItself))
    (read_argument predicate (without_first text)) ([], refl)
    (leaves_within (name ++ rest) (opening ∷ without_first text) (read_argument predicate (without_first text))
    (rest_within (name ++ rest) rest (opening ∷ without_first text) (name, refl)
    (subst (IsRest rest) (begun opening text opens) is))
    (leaves_argument predicate (without_first text))))
    (λ other. ([], refl))

pub nots_in : (cs : List ℕ) → IsRest cs (behind_nots cs)
nots_in [] = ([], refl)
nots_in (a ∷ []) = ([], refl)
nots_in (a ∷ b ∷ []) = ([], refl)
nots_in (a ∷ b ∷ c ∷ cs) =
    let inner = nots_in cs in
    elim (cases_Bool (a == 110 && (b == 111 && c == 116))) [
      | inl is_not ↦ rw is_not (a ∷ b ∷ c ∷ inner.0, ap (λ rest. a ∷ b ∷ c ∷ rest) inner.1)
      | inr other ↦ rw other ([], refl)
    ]

joined_whole : (word cs rest : List ℕ) (found : Option (List ℕ)) → behind word cs ≡ found → joined_rest found ≡ Some rest
    → cs ≡ word ++ rest
joined_whole word cs rest None is joined = cc joined
joined_whole word cs rest (Some following) is joined = elim (cases_Bool (is_joined following)) [
  | inl right ↦ let same : Some following ≡ Some rest = rw right at joined in
      behind_whole word cs rest (is ∙ same)
  | inr wrong ↦ let none : None ≡ Some rest = rw wrong at joined in cc none
]

-- what stands behind a word that is joined to it
pub joined_in : (word cs rest : List ℕ) → joined_behind word cs ≡ Some rest → cs ≡ word ++ rest
joined_in word cs rest joined = joined_whole word cs rest (behind word cs) refl joined

leaves_unnamed : (cs : List ℕ) (following : Option (List ℕ)) → joined_behind (codes "not") cs ≡ following
    → Leaves cs (read_unnamed following (run in_word cs) (behind_run in_word cs))
leaves_unnamed cs None is = ([], sym (run_whole in_word cs))
leaves_unnamed cs (Some rest) is =
    let left : IsRest cs rest × (length rest < length cs) =
    past cs rest 116 (110 ∷ 111 ∷ [], joined_in (codes "not") cs rest is) in
    let fits = rest_fits rest (behind_nots rest) (nots_in rest) in
    (rest_within cs rest (behind_nots rest) left.0 (nots_in rest), omega (arith, left.1))

leaves_word_as : (place : FilterPlace) (predicate : Option Predicate) (cs : List ℕ)
    → Leaves cs (read_word_as place predicate cs (run in_word cs) (behind_run in_word cs))
leaves_word_as place None cs = leaves_unnamed cs (joined_behind (codes "not") cs) refl
leaves_word_as place (Some predicate) cs =
    let word = run in_word cs in
    let rest = behind_run in_word cs in
    subst (λ whole. Leaves whole (read_named place predicate word rest (behind_spaces rest))) (run_whole in_word cs)
    (leaves_named place predicate word rest (behind_spaces rest) (spaces_in rest))

-- ---- the two states

-- at a parenthesis, a `#`, or something else
leaves_other : (c parenthesis : ℕ) (cs : List ℕ) (expected : Expected) (x : Reading) → Leaves (parenthesis ∷ cs) x
    → Leaves (c ∷ cs) (if c == parenthesis then x else if c == number_sign then unjudged else unexpected expected (c ∷ cs))
leaves_other c parenthesis cs expected x left =
    let other = unexpected expected (c ∷ cs) in
    by_test (Leaves (c ∷ cs)) (c == parenthesis) x (if c == number_sign then unjudged else other)
    (λ is. subst (λ d. Leaves (d ∷ cs) x) (sym (eqb-true c parenthesis is)) left)
    (λ no. either (Leaves (c ∷ cs)) (c == number_sign) unjudged other tt (leaves_unexpected expected (c ∷ cs)))

leaves_operand : (place : FilterPlace) (cs : List ℕ) → Leaves cs (read_operand place cs)
leaves_operand place [] = ([], refl)
leaves_operand place (c ∷ cs) =
    either (Leaves (c ∷ cs)) (begins_word c) (read_word place (c ∷ cs))
    (if c == exclamation_mark then goes_on Operand cs else if c == opening then opens cs
    else if c == number_sign then unjudged else unexpected expect.Expression (c ∷ cs))
    (leaves_word_as place (predicate_named (run in_word (c ∷ cs))) (c ∷ cs))
    (either (Leaves (c ∷ cs)) (c == exclamation_mark) (goes_on Operand cs)
    (if c == opening then opens cs else if c == number_sign then unjudged else unexpected expect.Expression (c ∷ cs))
    (past (c ∷ cs) cs c ([], refl))
    (leaves_other c opening cs expect.Expression (opens cs) ([], refl)))

leaves_joined : (cs : List ℕ) (behind_and behind_or : Option (List ℕ)) → joined_behind (codes "and") cs ≡ behind_and
    → joined_behind (codes "or") cs ≡ behind_or → Leaves cs (read_joined behind_and behind_or cs)
leaves_joined cs (Some rest) behind_or with_and with_or =
    past cs rest 100 (97 ∷ 110 ∷ [], joined_in (codes "and") cs rest with_and)
leaves_joined cs None (Some rest) with_and with_or =
    past cs rest 114 (111 ∷ [], joined_in (codes "or") cs rest with_or)
leaves_joined cs None None with_and with_or = leaves_unexpected expect.Operator cs

leaves_sign : (c : ℕ) (cs : List ℕ) → Leaves (c ∷ cs) (read_sign c cs)
leaves_sign c cs =
    either (Leaves (c ∷ cs)) (is_sign c && not (is_doubled c cs)) (goes_on Operand cs)
    (if c == closing then closes cs else if c == number_sign then unjudged else unexpected expect.Operator (c ∷ cs))
    (past (c ∷ cs) cs c ([], refl))
    (leaves_other c closing cs expect.Operator (closes cs) ([], refl))

leaves_operator : (cs : List ℕ) → Leaves cs (read_operator cs)
leaves_operator [] = tt
leaves_operator (c ∷ cs) =
    either (Leaves (c ∷ cs)) (begins_word c) (read_operator_word (c ∷ cs)) (read_sign c cs)
    (leaves_joined (c ∷ cs) (joined_behind (codes "and") (c ∷ cs)) (joined_behind (codes "or") (c ∷ cs)) refl refl)
    (leaves_sign c cs)

pub leaves_rest : (place : FilterPlace) (expects : Expects) (cs : List ℕ) → Leaves cs (reading_at place expects cs)
unfolding reading_at
leaves_rest place Operand cs =
    leaves_within cs (behind_spaces cs) (read_operand place (behind_spaces cs)) (spaces_in cs)
    (leaves_operand place (behind_spaces cs))
leaves_rest place Operator cs =
    leaves_within cs (behind_spaces cs) (read_operator (behind_spaces cs)) (spaces_in cs)
    (leaves_operator (behind_spaces cs))
