-- No regular expression of a documented argument is refused.
use Rattle.std.proofs.Common.{◌≡◌, ℕ, true, false, List, [], ◌∷◌, ◌++◌, None, refl, ap, ◌∙◌, inl, inr, append_assoc}
use Rattle.std.specs.Prelude.{◌⊎◌, Some}
use Rattle.std.specs.Str.{skip_leading_whitespace as behind_spaces}
use Rattle.toml_spans.specs.Characters.{slash}
use Rattle.nextest_config_filters.specs.Filter.Grammar.{a_regex, a_text, AreBlanks, IsPattern, IsRegexRest}
use Rattle.nextest_config_filters.specs.Filter.Regex.{closed_regex, is_pattern, refusal, regex_behind, regex_front, regex_in, unescaped}
use Rattle.nextest_config_filters.specs.Front.{before, begins, closing, only_blanks, opening}
use Rattle.nextest_config_filters.specs.Pieces.{regex_end}
use Rattle.nextest_config_filters.specs.declared.filter.predicate.Predicate.{Predicate}
use Rattle.nextest_config_filters.proofs.Filters.Documented.{blanks_before, closed_by, IsArgumentOf, no_argument, of_pattern, of_platform, regex_ends, spaces_behind_blanks, text_opens}
use Rattle.nextest_config_filters.proofs.Fronts.{front_of}
use Rattle.nextest_config_filters.proofs.Tests.{and_false}

-- a text that begins with no slash, or not behind blanks alone
no_regex : (opened : List ℕ) → (only_blanks opened ≡ false) ⊎ (begins slash (behind_spaces opened) ≡ false)
    → regex_in opened ≡ None
no_regex opened (inl unblank) = rw unblank refl
no_regex opened (inr other) = rw (other, and_false (only_blanks opened)) refl

-- a regular expression that is one
pattern_passes : (first text last tail : List ℕ) → AreBlanks first → IsRegexRest (text ++ (slash ∷ []))
    → is_pattern (unescaped text) ≡ true
    → refusal (regex_in (closed_by first (slash ∷ (text ++ (slash ∷ []))) last tail)) ≡ None
pattern_passes first text last tail blank is fine =
    let behind = last ++ (closing ∷ tail) in
    let cs = (text ++ (slash ∷ [])) ++ behind in
    let end : regex_end cs ≡ slash ∷ behind = regex_ends (text ++ (slash ∷ [])) behind is in
    let front : regex_front cs ≡ text = ap (before cs) end
    ∙ front_of cs text (slash ∷ behind) (append_assoc text (slash ∷ []) behind) in
    let read : regex_in (first ++ (slash ∷ cs)) ≡ closed_regex cs (regex_end cs) =
    rw (blanks_before first (slash ∷ cs) blank, spaces_behind_blanks first (slash ∷ cs) blank) refl in
    ap refusal (read ∙ ap (closed_regex cs) end) ∙ rw (ap (λ t. is_pattern (unescaped t)) front ∙ fine) refl

pattern_silent : (first argument last tail : List ℕ) → IsPattern argument → AreBlanks first → AreBlanks last
    → refusal (regex_in (closed_by first argument last tail)) ≡ None
pattern_silent first argument last tail (a_text text is) first_blank last_blank =
    rw (no_regex (closed_by first text last tail) (text_opens first text last tail first_blank is last_blank)) refl
pattern_silent first argument last tail (a_regex text is fine) first_blank last_blank =
    pattern_passes first text last tail first_blank is fine

-- nothing is reported of the regular expression of an argument, where there is one
pub argument_silent : (predicate : Predicate) (first argument last tail : List ℕ) → IsArgumentOf predicate argument
    → AreBlanks first → AreBlanks last
    → refusal (regex_behind (Some predicate) (opening ∷ closed_by first argument last tail)) ≡ None
argument_silent predicate first argument last tail (no_argument none is) first_blank last_blank = rw none refl
argument_silent predicate first argument last tail (of_platform platform is) first_blank last_blank = rw platform refl
argument_silent predicate first argument last tail (of_pattern takes is) first_blank last_blank =
    rw (takes.some, takes.regex) (pattern_silent first argument last tail is first_blank last_blank)
