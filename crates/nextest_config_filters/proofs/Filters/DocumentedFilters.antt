-- Nothing is reported of a filter that nextest's documentation has.
use Rattle.std.proofs.Common.{◌≡◌, ℕ, Bool, true, false, List, [], ◌∷◌, ◌++◌, Some, None, refl, sym, ap, ◌∙◌, subst, inl, inr, append_assoc, append-nil, eqb-true, rules, arith}
use Rattle.std.specs.Prelude.{◌==◌, ◌&&◌, codes}
use Rattle.std.specs.List.{list_all}
use Rattle.std.proofs.lemmas.Bool.{cases_Bool}
use Rattle.std.proofs.lemmas.Bool.Decides.{nat_tests}
use Rattle.std.specs.Char.{is_whitespace}
use Rattle.std.specs.Str.{chars, skip_leading_whitespace as behind_spaces}
use Rattle.nextest_config_filters.specs.Fault.{Fault}
use Rattle.nextest_config_filters.specs.Filter.Argument.{read_argument}
use Rattle.nextest_config_filters.specs.Filter.Expression.{asks_for_itself, is_sign, read_operand, read_operator, read_word, reading_at}
use Rattle.nextest_config_filters.specs.Filter.Fault.{IsFilterFault, IsReported}
use Rattle.nextest_config_filters.specs.Filter.Grammar.{a_group, a_line_end, a_line_feed, a_marked, a_negation, a_predicate, a_space, AreBlanks, by_sign, by_word, IsDocumentedFilter, IsExpression, IsSign, IsWord, MayAsk, no_blank}
use Rattle.nextest_config_filters.specs.Filter.Predicate.{behind_nots, is_joined, is_name_or_nothing, name_of, name_reads_back, predicate_named}
use Rattle.nextest_config_filters.specs.Filter.Reading.{closes, ends, FaultAt, goes_on, opens, Reading, unjudged}
use Rattle.nextest_config_filters.specs.Filter.Regex.{judged_at, refusal, regex_at, regex_behind, regex_of}
use Rattle.nextest_config_filters.specs.Filter.Walk.{next, next_of, reported_in, reported_of, State}
use Rattle.nextest_config_filters.specs.Front.{begins, begins_word, closing, exclamation_mark, in_word, opening, run}
use Rattle.nextest_config_filters.specs.Steps.{IsWalked}
use Rattle.nextest_config_filters.specs.declared.filter.FilterPlace.{FilterPlace}
use Rattle.nextest_config_filters.specs.declared.filter.predicate.Predicate.{Predicate}
use Rattle.nextest_config_filters.specs.declared.filter.reading.Expects.{Expects}
use Rattle.nextest_config_filters.specs.declared.filter.reading.Expects.TheVariants.{Operand, Operator}
use Rattle.nextest_config_filters.proofs.Filters.Documented.{argument_of, argument_passes, blank_ends_word, Passes, spaces_behind_blanks}
use Rattle.nextest_config_filters.proofs.Filters.DocumentedRegexes.{argument_silent}
use Rattle.nextest_config_filters.proofs.Filters.Regexes.{judged_silent}
use Rattle.nextest_config_filters.proofs.Filters.Steps.{behind_some}
use Rattle.nextest_config_filters.proofs.Fronts.{run_over}
use Rattle.nextest_config_filters.proofs.Steps.{alike, onwards, stuck}
use Rattle.nextest_config_filters.proofs.Tests.{all_true, first_true, second_true}

-- ---- steps, and what is reported behind them

abbrev at : Expects → List (List ℕ) → List ℕ → State
at expects open_ones cs = record { expects = expects; open_ones = open_ones; rest = cs }

same_reading : (place : FilterPlace) (expects : Expects) (blanks cs : List ℕ) → AreBlanks blanks
    → reading_at place expects (blanks ++ cs) ≡ reading_at place expects cs
unfolding reading_at
same_reading place Operand blanks cs blank = ap (read_operand place) (spaces_behind_blanks blanks cs blank)
same_reading place Operator blanks cs blank = ap read_operator (spaces_behind_blanks blanks cs blank)

same_regex : (expects : Expects) (blanks cs : List ℕ) → AreBlanks blanks → regex_at expects (blanks ++ cs) ≡ regex_at expects cs
unfolding regex_at
same_regex Operand blanks cs blank = ap regex_of (spaces_behind_blanks blanks cs blank)
same_regex Operator blanks cs blank = refl

same_judged : (place : FilterPlace) (expects : Expects) (blanks cs : List ℕ) → AreBlanks blanks
    → judged_at place expects (blanks ++ cs) ≡ judged_at place expects cs
unfolding judged_at
same_judged place expects blanks cs blank =
    rw (same_regex expects blanks cs blank, same_reading place expects blanks cs blank) refl

module _ (place : FilterPlace) (reported : FaultAt) where
  -- it is reported behind this state
  abbrev IsBehind : State → Type 0
  IsBehind from = IsWalked (next place) (reported_in place) from (Some reported)

  -- behind a state, so behind the next
  on : (expects : Expects) (open_ones : List (List ℕ)) (cs : List ℕ) (over : State) (reading : Reading)
      → judged_at place expects cs ≡ reading → next_of reading open_ones ≡ Some over
      → IsBehind (at expects open_ones cs) → IsBehind over
  on expects open_ones cs over reading read leads is =
      onwards (next place) (reported_in place) (Some reported) (at expects open_ones cs) over
      (ap (λ r. next_of r open_ones) read ∙ leads) is

  -- where no step leads on, it is reported there
  off : (expects : Expects) (open_ones : List (List ℕ)) (cs : List ℕ) (reading : Reading)
      → judged_at place expects cs ≡ reading → next_of reading open_ones ≡ None
      → IsBehind (at expects open_ones cs) → reported_of reading open_ones ≡ Some reported
  off expects open_ones cs reading read over is =
      ap (λ r. reported_of r open_ones) (sym read)
      ∙ stuck (next place) (reported_in place) (Some reported) (at expects open_ones cs)
      (ap (λ r. next_of r open_ones) read ∙ over) is

  passing : (open_ones : List (List ℕ)) (cs rest : List ℕ) → Passes (judged_at place Operand cs) rest
      → IsBehind (at Operand open_ones cs) → IsBehind (at Operator open_ones rest)
  passing open_ones cs rest (inr goes) is = on Operand open_ones cs (at Operator open_ones rest) (goes_on Operator rest) goes refl is
  passing open_ones cs rest (inl stops) is =
      let no : None ≡ Some reported = off Operand open_ones cs unjudged stops refl is in cc no

  moved : (expects : Expects) (open_ones : List (List ℕ)) (cs ds : List ℕ) → cs ≡ ds
      → IsBehind (at expects open_ones cs) → IsBehind (at expects open_ones ds)
  moved expects open_ones cs ds same is = subst (λ r. IsBehind (at expects open_ones r)) same is

  behind_blanks : (expects : Expects) (open_ones : List (List ℕ)) (blanks cs : List ℕ) → AreBlanks blanks
      → IsBehind (at expects open_ones (blanks ++ cs)) → IsBehind (at expects open_ones cs)
  behind_blanks expects open_ones blanks cs blank is =
      let same = same_judged place expects blanks cs blank in
      alike (next place) (reported_in place) (Some reported) (at expects open_ones (blanks ++ cs)) (at expects open_ones cs)
      (ap (λ r. next_of r open_ones) same) (ap (λ r. reported_of r open_ones) same) is

-- ---- words

-- a text begins so that no operator goes on, and is no space
pub record BeginsWell (cs : List ℕ) : Type 0 where
  pub c : ℕ
  pub rest : List ℕ
  pub whole : cs ≡ c ∷ rest
  pub no_sign : is_sign c ≡ false
  pub no_space : is_whitespace c ≡ false

pub record IsNameText (name : List ℕ) : Type 0 where
  pub well : BeginsWell name
  pub begins : begins_word well.c ≡ true
  pub all : list_all in_word name ≡ true

word_no_space : (c : ℕ) → begins_word c ≡ true → is_whitespace c ≡ false
word_no_space c begins = grind (arith, nat_tests)

word_no_sign : (c : ℕ) → begins_word c ≡ true → is_sign c ≡ false
word_no_sign c begins = grind (arith, nat_tests)

abbrev is_word : List ℕ → Bool
is_word [] = false
is_word (c ∷ cs) = begins_word c && list_all in_word (c ∷ cs)

word_text : (word : List ℕ) → is_word word ≡ true → IsNameText word
word_text [] is = cc is
word_text (c ∷ cs) is =
    let begins = first_true (begins_word c) (list_all in_word (c ∷ cs)) is in
    record {
      well = record { c = c; rest = cs; whole = refl; no_sign = word_no_sign c begins; no_space = word_no_space c begins };
      begins = begins;
      all = second_true (begins_word c) (list_all in_word (c ∷ cs)) is;
    }

name_is_word : (predicate : Predicate) → is_word (name_of predicate) ≡ true
name_is_word predicate = search rules

name_text : (predicate : Predicate) → IsNameText (name_of predicate)
name_text predicate = word_text (name_of predicate) (name_is_word predicate)

named_again : (predicate : Predicate) → predicate_named (name_of predicate) ≡ Some predicate
unfolding predicate_named
named_again predicate = name_reads_back predicate

may_ask : (place : FilterPlace) (predicate : Predicate) → MayAsk place predicate → asks_for_itself place predicate ≡ false
may_ask place predicate may = search rules

-- blanks before a parenthesis go on no word
parenthesis_ends : (blanks cs : List ℕ) → AreBlanks blanks → run in_word (blanks ++ (opening ∷ cs)) ≡ []
parenthesis_ends blanks cs blank = search rules

-- a name with its parenthesis is read as its argument
named_reading : (place : FilterPlace) (predicate : Predicate) (blanks opened : List ℕ) → MayAsk place predicate
    → AreBlanks blanks
    → reading_at place Operand (name_of predicate ++ (blanks ++ (opening ∷ opened))) ≡ read_argument predicate opened
unfolding reading_at
named_reading place predicate blanks opened may blank =
    let name = name_text predicate in
    let rest = blanks ++ (opening ∷ opened) in
    let cs = name_of predicate ++ rest in
    let none = parenthesis_ends blanks opened blank in
    let word = run_over in_word (name_of predicate) rest (all_true in_word (name_of predicate) name.all) none in
    let cons : cs ≡ name.well.c ∷ (name.well.rest ++ rest) = ap (λ n. n ++ rest) name.well.whole in
    let spaceless : behind_spaces cs ≡ cs = rw cons (rw name.well.no_space refl) in
    let begun : read_operand place cs ≡ read_word place cs = rw cons (rw name.begins refl) in
    let behind : behind_spaces rest ≡ opening ∷ opened = spaces_behind_blanks blanks (opening ∷ opened) blank in
    ap (read_operand place) spaceless ∙ begun
    ∙ rw (word.0, word.1, named_again predicate, behind, may_ask place predicate may) refl

-- and so is its regular expression
named_regex : (predicate : Predicate) (blanks opened : List ℕ) → AreBlanks blanks
    → regex_at Operand (name_of predicate ++ (blanks ++ (opening ∷ opened)))
    ≡ regex_behind (Some predicate) (opening ∷ opened)
unfolding regex_at
named_regex predicate blanks opened blank =
    let name = name_text predicate in
    let rest = blanks ++ (opening ∷ opened) in
    let cs = name_of predicate ++ rest in
    let none = parenthesis_ends blanks opened blank in
    let cons : cs ≡ name.well.c ∷ (name.well.rest ++ rest) = ap (λ n. n ++ rest) name.well.whole in
    let word = run_over in_word (name_of predicate) rest (all_true in_word (name_of predicate) name.all) none in
    let spaceless : behind_spaces cs ≡ cs = rw cons (rw name.well.no_space refl) in
    ap regex_of spaceless
    ∙ rw (word.0, word.1, named_again predicate, spaces_behind_blanks blanks (opening ∷ opened) blank) refl

-- ---- `not`, signs and words

nothing_named : predicate_named [] ≡ None
unfolding predicate_named
nothing_named = refl

unnamed : (c : ℕ) (cs : List ℕ) → is_whitespace c ≡ false → in_word c ≡ false → refusal (regex_at Operand (c ∷ cs)) ≡ None
unfolding regex_at
unnamed c cs no_space no_word = rw no_space (rw no_word (rw nothing_named refl))

operator_silent : (cs : List ℕ) → refusal (regex_at Operator cs) ≡ None
unfolding regex_at
operator_silent cs = refl

-- where no name stands, no regular expression does
no_name : (place : FilterPlace) (c : ℕ) (cs : List ℕ) → is_whitespace c ≡ false → in_word c ≡ false
    → judged_at place Operand (c ∷ cs) ≡ reading_at place Operand (c ∷ cs)
no_name place c cs no_space no_word = judged_silent place Operand (c ∷ cs) (unnamed c cs no_space no_word)

-- nor where an operator is expected
no_operand : (place : FilterPlace) (cs : List ℕ) → judged_at place Operator cs ≡ reading_at place Operator cs
no_operand place cs = judged_silent place Operator cs (operator_silent cs)

nots_none : (c : ℕ) (cs : List ℕ) → (c == 110) ≡ false → behind_nots (c ∷ cs) ≡ c ∷ cs
nots_none c [] other = refl
nots_none c (b ∷ []) other = refl
nots_none c (b ∷ d ∷ cs) other = rw other refl

blank_no_letter : (c : ℕ) (blanks : List ℕ) → AreBlanks (c ∷ blanks) → (c == 110) ≡ false
blank_no_letter c blanks blank = search rules

-- what begins with a blank is joined to no word
blank_joined : (c : ℕ) (blanks cs : List ℕ) → AreBlanks (c ∷ blanks)
    → (behind_nots ((c ∷ blanks) ++ cs) ≡ (c ∷ blanks) ++ cs) × (is_joined ((c ∷ blanks) ++ cs) ≡ true)
blank_joined c blanks cs blank =
    let same = nots_none c (blanks ++ cs) (blank_no_letter c blanks blank) in
    (same, ap (λ r. is_name_or_nothing (run in_word r)) same ∙ ap is_name_or_nothing (blank_ends_word c blanks cs blank))

not_unnamed : predicate_named (codes "not") ≡ None
unfolding predicate_named
not_unnamed = refl

not_silent : (c : ℕ) (blanks cs : List ℕ) → AreBlanks (c ∷ blanks)
    → refusal (regex_at Operand (codes "not" ++ ((c ∷ blanks) ++ cs))) ≡ None
unfolding regex_at
not_silent c blanks cs blank = rw (blank_ends_word c blanks cs blank, not_unnamed) refl

not_reading : (place : FilterPlace) (c : ℕ) (blanks cs : List ℕ) → AreBlanks (c ∷ blanks)
    → reading_at place Operand (codes "not" ++ ((c ∷ blanks) ++ cs)) ≡ goes_on Operand ((c ∷ blanks) ++ cs)
unfolding reading_at
not_reading place c blanks cs blank =
    let joined = blank_joined c blanks cs blank in
    rw (blank_ends_word c blanks cs blank, not_unnamed, joined.1, joined.0) refl

mark_reading : (place : FilterPlace) (cs : List ℕ) → reading_at place Operand (exclamation_mark ∷ cs) ≡ goes_on Operand cs
unfolding reading_at
mark_reading place cs = refl

group_reading : (place : FilterPlace) (cs : List ℕ) → reading_at place Operand (opening ∷ cs) ≡ opens cs
unfolding reading_at
group_reading place cs = refl

close_reading : (place : FilterPlace) (cs : List ℕ) → reading_at place Operator (closing ∷ cs) ≡ closes cs
unfolding reading_at
close_reading place cs = refl

end_reading : (place : FilterPlace) → reading_at place Operator [] ≡ ends
unfolding reading_at
end_reading place = refl

word_reading : (place : FilterPlace) (word : List ℕ) (c : ℕ) (blanks cs : List ℕ) → IsWord word → AreBlanks (c ∷ blanks)
    → reading_at place Operator (word ++ ((c ∷ blanks) ++ cs)) ≡ goes_on Operand ((c ∷ blanks) ++ cs)
unfolding reading_at
word_reading place word c blanks cs (inl with_and) blank = rw (with_and, (blank_joined c blanks cs blank).1) refl
word_reading place word c blanks cs (inr with_or) blank = rw (with_or, (blank_joined c blanks cs blank).1) refl

-- a sign that isn't doubled
sign_reading : (place : FilterPlace) (sign : ℕ) (cs : List ℕ) → IsSign sign → begins sign cs ≡ false
    → reading_at place Operator (sign ∷ cs) ≡ goes_on Operand cs
unfolding reading_at
sign_reading place sign cs (inl is) single = rw is (rw (rw is at single) refl)
sign_reading place sign cs (inr (inl is)) single = rw is (rw (rw is at single) refl)
sign_reading place sign cs (inr (inr (inl is))) single = rw is (rw (rw is at single) refl)
sign_reading place sign cs (inr (inr (inr is))) single = rw is (rw (rw is at single) refl)

sign_is : (sign : ℕ) → IsSign sign → is_sign sign ≡ true
sign_is sign is = search rules

unlike : (sign c : ℕ) → is_sign sign ≡ true → is_sign c ≡ false → (sign == c) ≡ false
unlike sign c is other = elim (cases_Bool (sign == c)) [
  | inl same ↦ let both : true ≡ false = sym is ∙ ap is_sign (eqb-true sign c same) ∙ other in cc both
  | inr not_same ↦ not_same
]

-- ---- expressions

expression_begins : (place : FilterPlace) (cs : List ℕ) → IsExpression place cs → BeginsWell cs
expression_begins place cs (a_predicate text is) =
    let name = name_text is.predicate in
    let behind = is.before ++ (opening ∷ (is.first ++ (is.argument ++ (is.last ++ (closing ∷ []))))) in
    record {
      c = name.well.c;
      rest = name.well.rest ++ behind;
      whole = is.whole ∙ ap (λ n. n ++ behind) name.well.whole;
      no_sign = name.well.no_sign;
      no_space = name.well.no_space;
    }
expression_begins place cs (a_negation c blanks text blank is) =
    record { c = 110; rest = 111 ∷ 116 ∷ ((c ∷ blanks) ++ text); whole = refl; no_sign = refl; no_space = refl }
expression_begins place cs (a_marked blanks text blank is) =
    record { c = exclamation_mark; rest = blanks ++ text; whole = refl; no_sign = refl; no_space = refl }
expression_begins place cs (a_group first text last first_blank is last_blank) =
    record { c = opening; rest = first ++ (text ++ (last ++ (closing ∷ []))); whole = refl; no_sign = refl; no_space = refl }
expression_begins place cs (by_word one first word c blanks other is first_blank is_word blank also) =
    let inner = expression_begins place one is in
    record {
      c = inner.c;
      rest = inner.rest ++ (first ++ (word ++ ((c ∷ blanks) ++ other)));
      whole = ap (λ t. t ++ (first ++ (word ++ ((c ∷ blanks) ++ other)))) inner.whole;
      no_sign = inner.no_sign;
      no_space = inner.no_space;
    }
expression_begins place cs (by_sign one first sign last other is first_blank is_sign last_blank also) =
    let inner = expression_begins place one is in
    record {
      c = inner.c;
      rest = inner.rest ++ (first ++ (sign ∷ (last ++ other)));
      whole = ap (λ t. t ++ (first ++ (sign ∷ (last ++ other)))) inner.whole;
      no_sign = inner.no_sign;
      no_space = inner.no_space;
    }

-- an operator isn't doubled by what may come behind it
single_sign : (sign : ℕ) (blanks cs tail : List ℕ) → IsSign sign → AreBlanks blanks → BeginsWell cs
    → begins sign (blanks ++ (cs ++ tail)) ≡ false
single_sign sign blanks cs tail is no_blank well =
    rw well.whole (unlike sign well.c (sign_is sign is) well.no_sign)
single_sign sign blanks cs tail is (a_space rest more) well = unlike sign 32 (sign_is sign is) refl
single_sign sign blanks cs tail is (a_line_feed rest more) well = unlike sign 10 (sign_is sign is) refl
single_sign sign blanks cs tail is (a_line_end rest more) well = unlike sign 13 (sign_is sign is) refl

-- what is reported before an expression is reported behind it
expression_passes : (place : FilterPlace) (reported : FaultAt) (cs : List ℕ) → IsExpression place cs
    → (open_ones : List (List ℕ)) (tail : List ℕ) → IsBehind place reported (at Operand open_ones (cs ++ tail))
    → IsBehind place reported (at Operator open_ones tail)
expression_passes place reported cs (a_predicate text is) open_ones tail from =
    let name = name_of is.predicate in
    let opened = is.first ++ (is.argument ++ (is.last ++ (closing ∷ tail))) in
    let whole : cs ++ tail ≡ name ++ (is.before ++ (opening ∷ opened)) =
    ap (λ t. t ++ tail) is.whole ∙ simp append_assoc in
    let silent = ap refusal (named_regex is.predicate is.before opened is.before_blank)
    ∙ argument_silent is.predicate is.first is.argument is.last tail (argument_of is.predicate is.argument is.is_argument) is.first_blank is.last_blank in
    let reading = judged_silent place Operand (name ++ (is.before ++ (opening ∷ opened))) silent
    ∙ named_reading place is.predicate is.before opened is.may_ask is.before_blank in
    passing place reported open_ones (name ++ (is.before ++ (opening ∷ opened))) tail
    (subst (λ r. Passes r tail) (sym reading)
    (argument_passes is.predicate is.first is.argument is.last tail (argument_of is.predicate is.argument is.is_argument) is.first_blank is.last_blank))
    (moved place reported Operand open_ones (cs ++ tail) (name ++ (is.before ++ (opening ∷ opened))) whole from)
expression_passes place reported cs (a_negation c blanks text blank is) open_ones tail from =
    let rest = (c ∷ blanks) ++ (text ++ tail) in
    let whole : cs ++ tail ≡ codes "not" ++ rest = ap (λ r. 110 ∷ 111 ∷ 116 ∷ r) (append_assoc (c ∷ blanks) text tail) in
    let behind_word = on place reported Operand open_ones (codes "not" ++ rest) (at Operand open_ones rest) (goes_on Operand rest)
    (judged_silent place Operand (codes "not" ++ rest) (not_silent c blanks (text ++ tail) blank)
    ∙ not_reading place c blanks (text ++ tail) blank) refl
    (moved place reported Operand open_ones (cs ++ tail) (codes "not" ++ rest) whole from) in
    expression_passes place reported text is open_ones tail
    (behind_blanks place reported Operand open_ones (c ∷ blanks) (text ++ tail) blank behind_word)
expression_passes place reported cs (a_marked blanks text blank is) open_ones tail from =
    let rest = blanks ++ (text ++ tail) in
    let whole : cs ++ tail ≡ exclamation_mark ∷ rest = ap (λ r. exclamation_mark ∷ r) (append_assoc blanks text tail) in
    let behind_mark = on place reported Operand open_ones (exclamation_mark ∷ rest) (at Operand open_ones rest) (goes_on Operand rest)
    (no_name place exclamation_mark rest refl refl ∙ mark_reading place rest) refl
    (moved place reported Operand open_ones (cs ++ tail) (exclamation_mark ∷ rest) whole from) in
    expression_passes place reported text is open_ones tail
    (behind_blanks place reported Operand open_ones blanks (text ++ tail) blank behind_mark)
expression_passes place reported cs (a_group first text last first_blank is last_blank) open_ones tail from =
    let closed = last ++ (closing ∷ tail) in
    let rest = first ++ (text ++ closed) in
    let whole : cs ++ tail ≡ opening ∷ rest = ap (λ r. opening ∷ r) (simp append_assoc) in
    let inside = on place reported Operand open_ones (opening ∷ rest) (at Operand (rest ∷ open_ones) rest) (opens rest)
    (no_name place opening rest refl refl ∙ group_reading place rest) refl
    (moved place reported Operand open_ones (cs ++ tail) (opening ∷ rest) whole from) in
    let behind_text = expression_passes place reported text is (rest ∷ open_ones) closed
    (behind_blanks place reported Operand (rest ∷ open_ones) first (text ++ closed) first_blank inside) in
    on place reported Operator (rest ∷ open_ones) (closing ∷ tail) (at Operator open_ones tail) (closes tail)
    (no_operand place (closing ∷ tail) ∙ close_reading place tail) refl
    (behind_blanks place reported Operator (rest ∷ open_ones) last (closing ∷ tail) last_blank behind_text)
expression_passes place reported cs (by_word one first word c blanks other is first_blank is_word blank also) open_ones tail from =
    let rest = (c ∷ blanks) ++ (other ++ tail) in
    let joined = word ++ rest in
    let whole : cs ++ tail ≡ one ++ (first ++ joined) =
    append_assoc one (first ++ (word ++ ((c ∷ blanks) ++ other))) tail
    ∙ ap (λ r. one ++ r) (append_assoc first (word ++ ((c ∷ blanks) ++ other)) tail
    ∙ ap (λ r. first ++ r) (append_assoc word ((c ∷ blanks) ++ other) tail
    ∙ ap (λ r. word ++ r) (append_assoc (c ∷ blanks) other tail))) in
    let behind_one = expression_passes place reported one is open_ones (first ++ joined)
    (moved place reported Operand open_ones (cs ++ tail) (one ++ (first ++ joined)) whole from) in
    let at_word = behind_blanks place reported Operator open_ones first joined first_blank behind_one in
    let behind_word = on place reported Operator open_ones joined (at Operand open_ones rest) (goes_on Operand rest)
    (no_operand place joined ∙ word_reading place word c blanks (other ++ tail) is_word blank) refl at_word in
    expression_passes place reported other also open_ones tail
    (behind_blanks place reported Operand open_ones (c ∷ blanks) (other ++ tail) blank behind_word)
expression_passes place reported cs (by_sign one first sign last other is first_blank signs last_blank also) open_ones tail from =
    let rest = last ++ (other ++ tail) in
    let joined = sign ∷ rest in
    let whole : cs ++ tail ≡ one ++ (first ++ joined) =
    append_assoc one (first ++ (sign ∷ (last ++ other))) tail
    ∙ ap (λ r. one ++ r) (append_assoc first (sign ∷ (last ++ other)) tail
    ∙ ap (λ r. first ++ (sign ∷ r)) (append_assoc last other tail)) in
    let behind_one = expression_passes place reported one is open_ones (first ++ joined)
    (moved place reported Operand open_ones (cs ++ tail) (one ++ (first ++ joined)) whole from) in
    let at_sign = behind_blanks place reported Operator open_ones first joined first_blank behind_one in
    let behind_sign = on place reported Operator open_ones joined (at Operand open_ones rest) (goes_on Operand rest)
    (no_operand place joined ∙ sign_reading place sign rest signs (single_sign sign last other tail signs last_blank (expression_begins place other also))) refl at_sign in
    expression_passes place reported other also open_ones tail
    (behind_blanks place reported Operand open_ones last (other ++ tail) last_blank behind_sign)

-- ---- filters

none_reported : (place : FilterPlace) (cs : List ℕ) (reported : FaultAt) → IsDocumentedFilter place cs → IsReported place cs reported → ⊥
none_reported place cs reported is reports =
    let text = is.expression ++ is.last in
    let well = expression_begins place is.expression is.is_expression in
    let cons : text ≡ well.c ∷ (well.rest ++ is.last) = ap (λ e. e ++ is.last) well.whole in
    let kept : behind_spaces text ≡ well.c ∷ (well.rest ++ is.last) = ap behind_spaces cons ∙ rw well.no_space refl in
    let spaceless : behind_spaces cs ≡ well.c ∷ (well.rest ++ is.last) =
    ap behind_spaces is.whole ∙ spaces_behind_blanks is.first text is.first_blank ∙ kept in
    let some : behind_spaces cs ≡ [] → ⊥ = λ none. (let no_cons : well.c ∷ (well.rest ++ is.last) ≡ [] = sym spaceless ∙ none in cc no_cons) in
    let from = (behind_some place cs (behind_spaces cs) some reported).0 reports in
    let at_text = behind_blanks place reported Operand [] is.first text is.first_blank
    (moved place reported Operand [] cs (is.first ++ text) is.whole from) in
    let behind_text = expression_passes place reported is.expression is.is_expression [] is.last at_text in
    let at_end = behind_blanks place reported Operator [] is.last [] is.last_blank
    (moved place reported Operator [] is.last (is.last ++ []) (sym (append-nil is.last)) behind_text) in
    let no : None ≡ Some reported =
    off place reported Operator [] [] ends (no_operand place [] ∙ end_reading place) refl at_end in cc no

pub nothing_reported : (place : FilterPlace) (text : List ℕ) (fault : Fault) → IsDocumentedFilter place (chars text)
    → IsFilterFault place text fault → ⊥
nothing_reported place text fault is wrong = none_reported place (chars text) wrong.reported is wrong.is_reported
