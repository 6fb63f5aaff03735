-- Nothing is reported of what nextest's documentation has.
use Rattle.std.proofs.Common.{◌≡◌, ℕ, Bool, true, false, List, [], ◌∷◌, ◌++◌, refl, sym, ap, ◌∙◌, subst, inl, inr, arith, append_assoc, eqb-true, rules}
use Rattle.std.specs.Prelude.{◌==◌, ◌&&◌, ◌||◌, ◌⊎◌, not, codes}
use Rattle.std.proofs.lemmas.Bool.{cases_Bool}
use Rattle.std.proofs.lemmas.List.{append_cancel_right}
use Rattle.std.specs.Char.{is_ascii_hexdigit, is_whitespace}
use Rattle.std.specs.List.{AllByRecursion}
use Rattle.std.specs.Str.{drop_trailing_whitespace as without_spaces_behind, skip_leading_whitespace as behind_spaces}
use Rattle.toml_spans.specs.Characters.{backslash, carriage_return, line_feed, slash}
use Rattle.nextest_config_filters.specs.Escape.{is_code, is_unknown_escape}
use Rattle.nextest_config_filters.specs.Filter.Argument.{closed_text, ended_text, is_no_platform, is_other_word, read_argument, read_begun, read_no_argument, read_regex, read_some_argument, read_text, text_front}
use Rattle.nextest_config_filters.specs.Filter.Grammar.{a_character, a_code, a_line_end, a_line_feed, a_pair, a_regex, a_space, a_text, an_escape, another, AreBlanks, AreCodeDigits, ArePieces, BeginsWithBlank, IsArgument, IsEscaped, IsPattern, IsPlain, IsRegexRest, IsText, marked, no_blank, no_piece, the_end, unmarked}
use Rattle.nextest_config_filters.specs.Filter.Predicate.{takes_none, takes_regex}
use Rattle.nextest_config_filters.specs.Filter.Reading.{goes_on, Reading, unjudged}
use Rattle.nextest_config_filters.specs.Front.{begins, behind_run, closing, closing_brace, comma, in_code, in_word, is_blank, number_sign, only_blanks, opening_brace, run, space, without_first}
use Rattle.nextest_config_filters.specs.Pieces.{has_before_end, is_opening, regex_end, text_end}
use Rattle.nextest_config_filters.specs.declared.filter.predicate.Predicate.{Predicate}
use Rattle.nextest_config_filters.specs.declared.filter.predicate.Predicate.TheVariants as predicates
use Rattle.nextest_config_filters.specs.declared.filter.reading.Expects.TheVariants.{Operator}
use Rattle.nextest_config_filters.proofs.Filters.Arguments.{text_front_whole}
use Rattle.nextest_config_filters.proofs.Tests.{apart, by_test, differs}

-- ---- blanks

pub spaces_behind_blanks : (blanks cs : List ℕ) → AreBlanks blanks → behind_spaces (blanks ++ cs) ≡ behind_spaces cs
spaces_behind_blanks blanks cs no_blank = refl
spaces_behind_blanks blanks cs (a_space rest more) = spaces_behind_blanks rest cs more
spaces_behind_blanks blanks cs (a_line_feed rest more) = spaces_behind_blanks rest cs more
spaces_behind_blanks blanks cs (a_line_end rest more) = spaces_behind_blanks rest cs more

-- blanks before a text are of those that it begins with
pub blanks_before : (blanks cs : List ℕ) → AreBlanks blanks → only_blanks (blanks ++ cs) ≡ only_blanks cs
blanks_before blanks cs no_blank = refl
blanks_before blanks cs (a_space rest more) = blanks_before rest cs more
blanks_before blanks cs (a_line_feed rest more) = blanks_before rest cs more
blanks_before blanks cs (a_line_end rest more) = blanks_before rest cs more

-- what begins with a blank goes on no word
pub blank_ends_word : (c : ℕ) (blanks cs : List ℕ) → AreBlanks (c ∷ blanks) → run in_word ((c ∷ blanks) ++ cs) ≡ []
blank_ends_word c blanks cs blank = search rules

-- ---- pieces of a text

not_begun : (d : ℕ) (cs : List ℕ) → ((rest : List ℕ) → cs ≡ d ∷ rest → ⊥) → begins d cs ≡ false
not_begun d [] none = refl
not_begun d (c ∷ cs) none = differs d c (λ same. none cs (ap (λ e. e ∷ cs) (sym same)))

no_blank_there : (c : ℕ) (cs : List ℕ) → (BeginsWithBlank (c ∷ cs) → ⊥) → is_blank c cs ≡ false
no_blank_there c cs none =
    rw (differs c space (λ same. none (inl same)), differs c line_feed (λ same. none (inr (inl same))))
    (elim (cases_Bool (c == carriage_return)) [
      | inl same ↦ rw same (not_begun line_feed cs (λ rest is. none (inr (inr (eqb-true c carriage_return same, rest, is)))))
      | inr other ↦ rw other refl
    ])

plain : (c : ℕ) → (c == closing) ≡ false → (c == comma) ≡ false → (c == backslash) ≡ false → IsPlain c
plain c a b d =
    record { no_closing = apart c closing a; no_comma = apart c comma b; no_backslash = apart c backslash d }

-- a character more is passed, unless it ends the text or is a backslash
text_goes_on : (c : ℕ) (cs : List ℕ) → IsPlain c → text_end (c ∷ cs) ≡ text_end cs
text_goes_on c [] plain = rw (differs c closing plain.no_closing, differs c comma plain.no_comma) refl
text_goes_on c (d ∷ cs) plain =
    rw (differs c backslash plain.no_backslash, differs c closing plain.no_closing, differs c comma plain.no_comma) refl

known_escape : (c : ℕ) (cs : List ℕ) → IsEscaped c → is_unknown_escape c cs ≡ false
known_escape c cs escaped = search rules

in_code_digit : (c : ℕ) → is_ascii_hexdigit c ≡ true → in_code c ≡ true
in_code_digit c digit = ap (λ b. b || (c == 95)) digit

code_runs : (digits cs : List ℕ) → AllByRecursion (λ c. is_ascii_hexdigit c ≡ true) digits
    → behind_run in_code (digits ++ (closing_brace ∷ cs)) ≡ closing_brace ∷ cs
code_runs [] cs all = refl
code_runs (d ∷ digits) cs all = rw (in_code_digit d all.0) (code_runs digits cs all.1)

known_code : (digits cs : List ℕ) → AreCodeDigits digits → is_code (digits ++ (closing_brace ∷ cs)) ≡ true
known_code [] cs are = absurd (omega (arith, are.some))
known_code (d ∷ digits) cs are =
    rw (in_code_digit d are.hexadecimal.0, code_runs digits cs are.hexadecimal.1) refl

digit_plain : (c : ℕ) → is_ascii_hexdigit c ≡ true → IsPlain c
digit_plain c digit = record {
  no_closing = λ same. let no : false ≡ true = rw same at digit in cc no;
  no_comma = λ same. let no : false ≡ true = rw same at digit in cc no;
  no_backslash = λ same. let no : false ≡ true = rw same at digit in cc no;
}

digits_go_on : (digits cs : List ℕ) → AllByRecursion (λ c. is_ascii_hexdigit c ≡ true) digits
    → text_end (digits ++ cs) ≡ text_end cs
digits_go_on [] cs all = refl
digits_go_on (d ∷ digits) cs all = text_goes_on d (digits ++ cs) (digit_plain d all.0) ∙ digits_go_on digits cs all.1

closing_ends : (tail : List ℕ) → text_end (closing ∷ tail) ≡ closing ∷ tail
closing_ends [] = refl
closing_ends (d ∷ tail) = refl

-- pieces go on to the parenthesis that closes
pub text_ends : (pieces tail : List ℕ) → ArePieces pieces → text_end (pieces ++ (closing ∷ tail)) ≡ closing ∷ tail
text_ends pieces tail no_piece = closing_ends tail
text_ends pieces tail (a_character c cs plain more) =
    text_goes_on c (cs ++ (closing ∷ tail)) plain ∙ text_ends cs tail more
text_ends pieces tail (an_escape c cs escaped more) =
    rw (known_escape c (cs ++ (closing ∷ tail)) escaped) (text_ends cs tail more)
text_ends pieces tail (a_code digits cs are more) =
    let rest = cs ++ (closing ∷ tail) in
    let code : (digits ++ (closing_brace ∷ cs)) ++ (closing ∷ tail) ≡ digits ++ (closing_brace ∷ rest) =
    append_assoc digits (closing_brace ∷ cs) (closing ∷ tail) in
    rw (code, known_code digits rest are)
    (text_goes_on opening_brace (digits ++ (closing_brace ∷ rest)) (plain opening_brace refl refl refl)
    ∙ digits_go_on digits (closing_brace ∷ rest) are.hexadecimal
    ∙ text_goes_on closing_brace rest (plain closing_brace refl refl refl)
    ∙ text_ends cs tail more)

-- without spaces at the front they are pieces as well
pub pieces_behind_spaces : (pieces tail : List ℕ) → ArePieces pieces
    → (left : List ℕ) × ArePieces left × (behind_spaces (pieces ++ (closing ∷ tail)) ≡ left ++ (closing ∷ tail))
pieces_behind_spaces pieces tail no_piece = ([], no_piece, refl)
pieces_behind_spaces pieces tail (a_character c cs plain more) = elim (cases_Bool (is_whitespace c)) [
  | inl white ↦ let inner = pieces_behind_spaces cs tail more in (inner.0, inner.1, rw white inner.2)
  | inr other ↦ (c ∷ cs, a_character c cs plain more, rw other refl)
]
pieces_behind_spaces pieces tail (an_escape c cs escaped more) = (backslash ∷ c ∷ cs, an_escape c cs escaped more, refl)
pieces_behind_spaces pieces tail (a_code digits cs are more) =
    (backslash ∷ 117 ∷ opening_brace ∷ (digits ++ (closing_brace ∷ cs)), a_code digits cs are more, refl)

pub pieces_joined : (pieces others : List ℕ) → ArePieces pieces → ArePieces others → ArePieces (pieces ++ others)
pieces_joined pieces others no_piece more = more
pieces_joined pieces others (a_character c cs plain rest) more = a_character c (cs ++ others) plain (pieces_joined cs others rest more)
pieces_joined pieces others (an_escape c cs escaped rest) more = an_escape c (cs ++ others) escaped (pieces_joined cs others rest more)
pieces_joined pieces others (a_code digits cs are rest) more =
    let code : (digits ++ (closing_brace ∷ cs)) ++ others ≡ digits ++ (closing_brace ∷ (cs ++ others)) =
    append_assoc digits (closing_brace ∷ cs) others in
    subst (λ code. ArePieces (backslash ∷ 117 ∷ opening_brace ∷ code)) (sym code)
    (a_code digits (cs ++ others) are (pieces_joined cs others rest more))

pub blank_pieces : (blanks : List ℕ) → AreBlanks blanks → ArePieces blanks
blank_pieces blanks no_blank = no_piece
blank_pieces blanks (a_space rest more) = a_character space rest (plain space refl refl refl) (blank_pieces rest more)
blank_pieces blanks (a_line_feed rest more) = a_character line_feed rest (plain line_feed refl refl refl) (blank_pieces rest more)
blank_pieces blanks (a_line_end rest more) =
    a_character carriage_return (line_feed ∷ rest) (plain carriage_return refl refl refl) (a_character line_feed rest (plain line_feed refl refl refl) (blank_pieces rest more))

pub not_closed_at_once : (pieces cs : List ℕ) → ArePieces pieces → (pieces ≡ [] → ⊥) → begins closing (pieces ++ cs) ≡ false
not_closed_at_once pieces cs no_piece some = absurd (some refl)
not_closed_at_once pieces cs (a_character c rest plain more) some = differs closing c (λ same. plain.no_closing (sym same))
not_closed_at_once pieces cs (an_escape c rest escaped more) some = refl
not_closed_at_once pieces cs (a_code digits rest are more) some = refl

-- ---- arguments

-- what is read isn't judged, or it goes on behind
abbrev pub Passes : Reading → List ℕ → Type 0
Passes reading tail = (reading ≡ unjudged) ⊎ (reading ≡ goes_on Operator tail)

-- the predicate takes a text or a regular expression
pub record TakesPattern (predicate : Predicate) : Type 0 where
  pub some : takes_none predicate ≡ false
  pub regex : takes_regex predicate ≡ true
  pub free : (argument : List ℕ) → is_no_platform predicate argument ≡ false

closed_passes : (predicate : Predicate) (cs tail : List ℕ)
    → is_no_platform predicate (without_spaces_behind (text_front cs)) ≡ false
    → Passes (closed_text predicate cs tail) tail
closed_passes predicate cs tail fine =
    rw fine (by_test (λ r. Passes r tail) (has_before_end is_opening cs) unjudged (goes_on Operator tail) (λ is. inl refl) (λ is. inr refl))

text_passes : (predicate : Predicate) (opened cs tail : List ℕ) → text_end cs ≡ closing ∷ tail
    → is_no_platform predicate (without_spaces_behind (text_front cs)) ≡ false
    → Passes (read_text predicate opened cs) tail
text_passes predicate opened cs tail end fine =
    subst (λ e. Passes (ended_text predicate opened cs e) tail) (sym end) (closed_passes predicate cs tail fine)

-- judged as a regular expression it begins with a slash behind blanks alone
never : (blank slashed signed takes : Bool) → (not blank && (slashed || signed)) ≡ false → (slashed && takes) ≡ true
    → ((blank ≡ false) ⊎ (slashed ≡ false)) → ⊥
never blank slashed signed takes judged regex free = search rules

-- a text that begins with no slash, or not behind blanks alone
some_passes : (predicate : Predicate) (opened tail : List ℕ) → TakesPattern predicate → begins closing opened ≡ false
    → text_end (behind_spaces opened) ≡ closing ∷ tail
    → ((only_blanks opened ≡ false) ⊎ (begins slash (behind_spaces opened) ≡ false))
    → Passes (read_some_argument predicate opened) tail
some_passes predicate opened tail takes some end no_regex =
    let cs = behind_spaces opened in
    rw some (by_test (λ r. Passes r tail) (not (only_blanks opened) && (begins slash cs || begins number_sign cs)) unjudged
    (read_begun predicate opened cs) (λ is. inl refl)
    (λ judged. by_test (λ r. Passes r tail) (begins slash cs && takes_regex predicate) (read_regex opened (without_first cs))
    (read_text predicate opened cs)
    (λ regex. absurd (never (only_blanks opened) (begins slash cs) (begins number_sign cs) (takes_regex predicate) judged regex no_regex))
    (λ text. text_passes predicate opened cs tail end (takes.free (without_spaces_behind (text_front cs))))))

-- what an unmarked text begins with
unmarked_start : (c : ℕ) (cs last tail : List ℕ) → (c ≡ slash → ⊥) → is_blank c cs ≡ false → AreBlanks last
    → (only_blanks (c ∷ (cs ++ (last ++ (closing ∷ tail)))) ≡ false)
    ⊎ (begins slash (behind_spaces (c ∷ (cs ++ (last ++ (closing ∷ tail))))) ≡ false)
unmarked_start c [] last tail no_slash unblank blank = elim (cases_Bool (is_whitespace c)) [
  | inl white ↦ inr (rw (white, spaces_behind_blanks last (closing ∷ tail) blank) refl)
  | inr other ↦ inr (rw other (differs slash c (λ same. no_slash (sym same))))
]
unmarked_start c (d ∷ cs) last tail no_slash unblank blank = elim (cases_Bool (is_whitespace c)) [
  | inl white ↦ inl (rw (unblank, white) refl)
  | inr other ↦ inr (rw other (differs slash c (λ same. no_slash (sym same))))
]

in_middle : (first : List ℕ) (c : ℕ) (rest : List ℕ) → first ++ (c ∷ rest) ≡ [] → ⊥
in_middle [] c rest none = cc none
in_middle (d ∷ first) c rest none = cc none

-- where the argument, with blanks, is pieces
pieces_pass : (predicate : Predicate) (pieces tail : List ℕ) → TakesPattern predicate → ArePieces pieces
    → (pieces ≡ [] → ⊥)
    → ((only_blanks (pieces ++ (closing ∷ tail)) ≡ false) ⊎ (begins slash (behind_spaces (pieces ++ (closing ∷ tail))) ≡ false))
    → Passes (read_some_argument predicate (pieces ++ (closing ∷ tail))) tail
pieces_pass predicate pieces tail takes are some no_regex =
    let left = pieces_behind_spaces pieces tail are in
    some_passes predicate (pieces ++ (closing ∷ tail)) tail takes (not_closed_at_once pieces (closing ∷ tail) are some)
    (ap text_end left.2 ∙ text_ends left.0 tail left.1) no_regex

-- an argument between blanks, and what closes it
abbrev pub closed_by : List ℕ → List ℕ → List ℕ → List ℕ → List ℕ
closed_by first argument last tail = first ++ (argument ++ (last ++ (closing ∷ tail)))

regrouped : (first argument last tail : List ℕ)
    → closed_by first argument last tail ≡ (first ++ (argument ++ last)) ++ (closing ∷ tail)
regrouped first argument last tail = simp append_assoc

text_between : (first : List ℕ) (argument : List ℕ) (last : List ℕ) → AreBlanks first → ArePieces argument → AreBlanks last
    → ArePieces (first ++ (argument ++ last))
text_between first argument last first_blank are last_blank =
    pieces_joined first (argument ++ last) (blank_pieces first first_blank)
    (pieces_joined argument last are (blank_pieces last last_blank))

text_start : (text last tail : List ℕ) → IsText text → AreBlanks last
    → (only_blanks (text ++ (last ++ (closing ∷ tail))) ≡ false)
    ⊎ (begins slash (behind_spaces (text ++ (last ++ (closing ∷ tail)))) ≡ false)
text_start text last tail (marked mark c cs (inl equal) are) blank = inr (rw equal refl)
text_start text last tail (marked mark c cs (inr (inl tilde)) are) blank = inr (rw tilde refl)
text_start text last tail (marked mark c cs (inr (inr sign)) are) blank = inr (rw sign refl)
text_start text last tail (unmarked c cs are no_slash unblank) blank = unmarked_start c cs last tail no_slash (no_blank_there c cs unblank) blank

text_pieces : (text : List ℕ) → IsText text → ArePieces text
text_pieces text (marked mark c cs (inl equal) are) =
    a_character mark (c ∷ cs) (rw equal (plain 61 refl refl refl)) are
text_pieces text (marked mark c cs (inr (inl tilde)) are) =
    a_character mark (c ∷ cs) (rw tilde (plain 126 refl refl refl)) are
text_pieces text (marked mark c cs (inr (inr sign)) are) =
    a_character mark (c ∷ cs) (rw sign (plain number_sign refl refl refl)) are
text_pieces text (unmarked c cs are no_slash unblank) = are

text_some : (text : List ℕ) → IsText text → (c : ℕ) × (cs : List ℕ) × (text ≡ c ∷ cs)
text_some text (marked mark c cs is are) = (mark, c ∷ cs, refl)
text_some text (unmarked c cs are no_slash unblank) = (c, cs, refl)

-- an argument that is a text begins with no slash, or not behind blanks alone
pub text_opens : (first text last tail : List ℕ) → AreBlanks first → IsText text → AreBlanks last
    → (only_blanks (closed_by first text last tail) ≡ false)
    ⊎ (begins slash (behind_spaces (closed_by first text last tail)) ≡ false)
text_opens first text last tail first_blank is last_blank =
    rw (blanks_before first (text ++ (last ++ (closing ∷ tail))) first_blank, spaces_behind_blanks first (text ++ (last ++ (closing ∷ tail))) first_blank)
    (text_start text last tail is last_blank)

text_argument : (predicate : Predicate) (first text last tail : List ℕ) → TakesPattern predicate → AreBlanks first
    → IsText text → AreBlanks last → Passes (read_some_argument predicate (closed_by first text last tail)) tail
text_argument predicate first text last tail takes first_blank is last_blank =
    let some = text_some text is in
    let nonempty : first ++ (text ++ last) ≡ [] → ⊥ =
    λ none. in_middle first some.0 (some.1 ++ last) (sym (ap (λ t. first ++ (t ++ last)) some.2) ∙ none) in
    let whole = regrouped first text last tail in
    rw whole
    (pieces_pass predicate (first ++ (text ++ last)) tail takes
    (text_between first text last first_blank (text_pieces text is) last_blank) nonempty
    (subst (λ cs. (only_blanks cs ≡ false) ⊎ (begins slash (behind_spaces cs) ≡ false)) whole (text_opens first text last tail first_blank is last_blank)))

-- ---- regular expressions

regex_goes_on : (c : ℕ) (cs : List ℕ) → (c ≡ slash → ⊥) → (c ≡ backslash → ⊥) → regex_end (c ∷ cs) ≡ regex_end cs
regex_goes_on c [] no_slash no_backslash = rw (differs c slash no_slash) refl
regex_goes_on c (d ∷ cs) no_slash no_backslash = rw (differs c backslash no_backslash, differs c slash no_slash) refl

slash_ends : (tail : List ℕ) → regex_end (slash ∷ tail) ≡ slash ∷ tail
slash_ends [] = refl
slash_ends (d ∷ tail) = refl

rest_begins : (rest tail : List ℕ) → IsRegexRest rest → begins slash (rest ++ tail) ≡ begins slash rest
rest_begins rest tail the_end = refl
rest_begins rest tail (another c cs no_slash no_backslash more) = refl
rest_begins rest tail (a_pair c cs clear more) = refl

clear_pair : (c : ℕ) (cs tail : List ℕ) → (c ≡ backslash → (rest : List ℕ) → cs ≡ slash ∷ rest → ⊥) → IsRegexRest cs
    → (c == backslash && begins slash (cs ++ tail)) ≡ false
clear_pair c cs tail clear more = elim (cases_Bool (c == backslash)) [
  | inl same ↦ rw (same, rest_begins cs tail more) (not_begun slash cs (clear (eqb-true c backslash same)))
  | inr other ↦ rw other refl
]

pub regex_ends : (rest tail : List ℕ) → IsRegexRest rest → regex_end (rest ++ tail) ≡ slash ∷ tail
regex_ends rest tail the_end = slash_ends tail
regex_ends rest tail (another c cs no_slash no_backslash more) =
    regex_goes_on c (cs ++ tail) no_slash no_backslash ∙ regex_ends cs tail more
regex_ends rest tail (a_pair c cs clear more) = rw (clear_pair c cs tail clear more) (regex_ends cs tail more)

not_closing : (blanks cs : List ℕ) → AreBlanks blanks → begins closing cs ≡ false → begins closing (blanks ++ cs) ≡ false
not_closing blanks cs blank other = search rules

regex_argument : (predicate : Predicate) (first rest last tail : List ℕ) → TakesPattern predicate → AreBlanks first
    → IsRegexRest rest → AreBlanks last → Passes (read_some_argument predicate (closed_by first (slash ∷ rest) last tail)) tail
regex_argument predicate first rest last tail takes first_blank is last_blank =
    let behind = last ++ (closing ∷ tail) in
    let inner = slash ∷ (rest ++ behind) in
    rw (not_closing first inner first_blank refl, blanks_before first inner first_blank, spaces_behind_blanks first inner first_blank, takes.regex, regex_ends rest behind is, spaces_behind_blanks last (closing ∷ tail) last_blank)
    (inr refl)

-- ---- `platform`

blank_dropped : (blanks : List ℕ) → AreBlanks blanks → without_spaces_behind blanks ≡ []
blank_dropped blanks no_blank = refl
blank_dropped blanks (a_space rest more) = rw (blank_dropped rest more) refl
blank_dropped blanks (a_line_feed rest more) = rw (blank_dropped rest more) refl
blank_dropped blanks (a_line_end rest more) = rw (blank_dropped rest more) refl

front_is : (cs front rest : List ℕ) → cs ≡ front ++ rest → text_end cs ≡ rest → text_front cs ≡ front
front_is cs front rest whole end =
    append_cancel_right (text_front cs) front rest
    (ap (λ r. text_front cs ++ r) (sym end) ∙ sym (text_front_whole cs) ∙ whole)

-- `host` and `target` are pieces that begin with no space and end in none
pub record IsPlatformText (word : List ℕ) : Type 0 where
  pub pieces : ArePieces word
  pub starts : (cs : List ℕ) → (behind_spaces (word ++ cs) ≡ word ++ cs) × (begins closing (word ++ cs) ≡ false)
      × (begins slash (word ++ cs) ≡ false) × (begins number_sign (word ++ cs) ≡ false)
  pub kept : (blanks : List ℕ) → AreBlanks blanks → without_spaces_behind (word ++ blanks) ≡ word
  pub known : is_other_word word ≡ false

letter : (c : ℕ) (cs : List ℕ) → (c == closing) ≡ false → (c == comma) ≡ false → (c == backslash) ≡ false
    → ArePieces cs → ArePieces (c ∷ cs)
letter c cs a b d more = a_character c cs (plain c a b d) more

host_text : IsPlatformText (codes "host")
host_text = record {
  pieces = letter 104 _ refl refl refl (letter 111 _ refl refl refl (letter 115 _ refl refl refl (letter 116 _ refl refl refl no_piece)));
  starts = λ cs. (refl, refl, refl, refl);
  kept = λ blanks blank. rw (blank_dropped blanks blank) refl;
  known = refl;
}

target_text : IsPlatformText (codes "target")
target_text = record {
  pieces = letter 116 _ refl refl refl (letter 97 _ refl refl refl (letter 114 _ refl refl refl
      (letter 103 _ refl refl refl (letter 101 _ refl refl refl (letter 116 _ refl refl refl no_piece)))));
  starts = λ cs. (refl, refl, refl, refl);
  kept = λ blanks blank. rw (blank_dropped blanks blank) refl;
  known = refl;
}

platform_text : (word last tail opened : List ℕ) → IsPlatformText word → AreBlanks last
    → Passes (read_text predicates.Platform opened (word ++ (last ++ (closing ∷ tail)))) tail
platform_text word last tail opened is blank =
    let cs = word ++ (last ++ (closing ∷ tail)) in
    let whole : cs ≡ (word ++ last) ++ (closing ∷ tail) = sym (append_assoc word last (closing ∷ tail)) in
    let end : text_end cs ≡ closing ∷ tail =
    ap text_end whole ∙ text_ends (word ++ last) tail (pieces_joined word last is.pieces (blank_pieces last blank)) in
    let argument : without_spaces_behind (text_front cs) ≡ word =
    ap without_spaces_behind (front_is cs (word ++ last) (closing ∷ tail) whole end) ∙ is.kept last blank in
    text_passes predicates.Platform opened cs tail end (ap is_other_word argument ∙ is.known)

platform_argument : (first word last tail : List ℕ) → IsPlatformText word → AreBlanks first → AreBlanks last
    → Passes (read_some_argument predicates.Platform (closed_by first word last tail)) tail
platform_argument first word last tail is first_blank last_blank =
    let behind = last ++ (closing ∷ tail) in
    let inner = word ++ behind in
    let opened = closed_by first word last tail in
    let cs_is : behind_spaces opened ≡ inner = spaces_behind_blanks first inner first_blank ∙ (is.starts behind).0 in
    rw (not_closing first inner first_blank (is.starts behind).1, cs_is, (is.starts behind).2, (is.starts behind).3)
    (by_test (λ r. Passes r tail) (not (only_blanks opened) && false) unjudged (read_text predicates.Platform opened inner)
    (λ is_so. inl refl) (λ other. platform_text word last tail opened is last_blank))

-- ---- any argument

none_argument : (predicate : Predicate) (first last tail : List ℕ) → AreBlanks first → AreBlanks last
    → Passes (read_no_argument predicate (closed_by first [] last tail)) tail
none_argument predicate first last tail first_blank last_blank =
    let cs_is : behind_spaces (closed_by first [] last tail) ≡ closing ∷ tail =
    spaces_behind_blanks first (last ++ (closing ∷ tail)) first_blank ∙ spaces_behind_blanks last (closing ∷ tail) last_blank in
    rw cs_is (inr refl)

pattern_argument : (predicate : Predicate) (first argument last tail : List ℕ) → TakesPattern predicate → AreBlanks first
    → IsPattern argument → AreBlanks last → Passes (read_argument predicate (closed_by first argument last tail)) tail
unfolding read_argument
pattern_argument predicate first argument last tail takes first_blank (a_text text is) last_blank =
    rw takes.some (text_argument predicate first text last tail takes first_blank is last_blank)
pattern_argument predicate first argument last tail takes first_blank (a_regex text is fine) last_blank =
    rw takes.some (regex_argument predicate first (text ++ (slash ∷ [])) last tail takes first_blank is last_blank)

platform_either : (first argument last tail : List ℕ) → (argument ≡ codes "host") ⊎ (argument ≡ codes "target")
    → AreBlanks first → AreBlanks last → Passes (read_argument predicates.Platform (closed_by first argument last tail)) tail
unfolding read_argument
platform_either first argument last tail (inl host) first_blank last_blank =
    rw host (platform_argument first (codes "host") last tail host_text first_blank last_blank)
platform_either first argument last tail (inr target) first_blank last_blank =
    rw target (platform_argument first (codes "target") last tail target_text first_blank last_blank)

-- an argument is none, a word of `platform`, or a pattern
pub data IsArgumentOf (predicate : Predicate) (argument : List ℕ) : Type 0 where
  no_argument : takes_none predicate ≡ true → argument ≡ [] → IsArgumentOf predicate argument
  of_platform : predicate ≡ predicates.Platform → (argument ≡ codes "host") ⊎ (argument ≡ codes "target")
      → IsArgumentOf predicate argument
  of_pattern : TakesPattern predicate → IsPattern argument → IsArgumentOf predicate argument

pub argument_of : (predicate : Predicate) (argument : List ℕ) → IsArgument predicate argument
    → IsArgumentOf predicate argument
argument_of predicate argument is = search rules

pub argument_passes : (predicate : Predicate) (first argument last tail : List ℕ) → IsArgumentOf predicate argument
    → AreBlanks first → AreBlanks last → Passes (read_argument predicate (closed_by first argument last tail)) tail
unfolding read_argument
argument_passes predicate first argument last tail (no_argument none is) first_blank last_blank =
    rw (none, is) (none_argument predicate first last tail first_blank last_blank)
argument_passes predicate first argument last tail (of_platform platform is) first_blank last_blank =
    rw platform (platform_either first argument last tail is first_blank last_blank)
argument_passes predicate first argument last tail (of_pattern takes is) first_blank last_blank =
    pattern_argument predicate first argument last tail takes first_blank is last_blank
