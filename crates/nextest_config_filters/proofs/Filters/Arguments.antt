-- Arguments of predicates.
use Rattle.std.proofs.Common.{◌≡◌, ◌≢◌, ℕ, Bool, true, false, List, [], ◌∷◌, ◌++◌, length, drop, refl, sym, subst, inl, inr}
use Rattle.std.specs.Prelude.{◌==◌, ◌⊎◌, if◌then◌else◌}
use Rattle.std.specs.Str.{drop_trailing_whitespace as without_spaces_behind}
use Rattle.toml_spans.specs.Characters.{backslash}
use Rattle.nextest_config_filters.specs.Escape.{is_unknown_escape}
use Rattle.nextest_config_filters.specs.Filter.Argument.{closed_text, is_no_platform, read_nothing, text_front}
use Rattle.nextest_config_filters.specs.Filter.Reading.{fault_at, goes_on, reports, unjudged}
use Rattle.nextest_config_filters.specs.Front.{IsRest}
use Rattle.nextest_config_filters.specs.Pieces.{end_of, ends_regex, ends_text, has_before_end, is_opening, is_pair_before_slash, regex_end, text_end}
use Rattle.nextest_config_filters.specs.declared.fault.Expected.TheVariants as expect
use Rattle.nextest_config_filters.specs.declared.fault.FilterFlaw.TheVariants as flaws
use Rattle.nextest_config_filters.specs.declared.filter.predicate.Predicate.{Predicate}
use Rattle.nextest_config_filters.specs.declared.filter.reading.Expects.TheVariants.{Operator}
use Rattle.nextest_config_filters.proofs.Fronts.{before_whole, rest_behind}
use Rattle.nextest_config_filters.proofs.Tests.{by_test, either}

-- some argument of a predicate that takes none is reported
pub read_something : (predicate : Predicate) (argument cs rest : List ℕ) → argument ≢ []
    → read_nothing predicate argument cs rest
    ≡ reports (fault_at argument (drop (length argument) cs) (flaws.UnwantedArgument predicate))
read_something predicate [] cs rest some = absurd (some refl)
read_something predicate (c ∷ argument) cs rest some = refl

-- ---- where a text and a regular expression end

-- an end begins with a backslash, or with a character that ends
abbrev pub BeginsAsEnd : (ℕ → Bool) → List ℕ → Type 0
BeginsAsEnd ends [] = Unit {0}
BeginsAsEnd ends (c ∷ cs) = ((c == backslash) ≡ true) ⊎ (ends c ≡ true)

abbrev IsEndIn : (ℕ → Bool) → List ℕ → List ℕ → Type 0
IsEndIn ends cs end = IsRest cs end × BeginsAsEnd ends end

end_in : (ends : ℕ → Bool) (ends_by : ℕ → List ℕ → Bool) (cs : List ℕ) → IsEndIn ends cs (end_of ends ends_by cs)
end_in ends ends_by [] = (([], refl), tt)
end_in ends ends_by (c ∷ []) =
    by_test (IsEndIn ends (c ∷ [])) (ends c) (c ∷ []) [] (λ is. (([], refl), inr is)) (λ other. ((c ∷ [], refl), tt))
end_in ends ends_by (c ∷ d ∷ cs) =
    let here = c ∷ d ∷ cs in
    let behind_pair = end_of ends ends_by cs in
    let behind_one = end_of ends ends_by (d ∷ cs) in
    let pair = end_in ends ends_by cs in
    let one = end_in ends ends_by (d ∷ cs) in
    by_test (IsEndIn ends here) (c == backslash) (if ends_by d cs then here else behind_pair)
    (if ends c then here else behind_one)
    (λ escapes. either (IsEndIn ends here) (ends_by d cs) here behind_pair (([], refl), inl escapes)
    (rest_behind c (d ∷ cs) behind_pair (rest_behind d cs behind_pair pair.0), pair.1))
    (λ plain. by_test (IsEndIn ends here) (ends c) here behind_one (λ is. (([], refl), inr is))
    (λ other. (rest_behind c (d ∷ cs) behind_one one.0, one.1)))

pub text_end_rest : (cs : List ℕ) → IsRest cs (text_end cs)
text_end_rest cs = (end_in ends_text is_unknown_escape cs).0

pub regex_end_rest : (cs : List ℕ) → IsRest cs (regex_end cs)
regex_end_rest cs = (end_in ends_regex is_pair_before_slash cs).0

-- what leads up to the end of a text, and what stands from there on
pub text_front_whole : (cs : List ℕ) → cs ≡ text_front cs ++ text_end cs
text_front_whole cs = before_whole cs (text_end cs) (text_end_rest cs)

-- ---- a text that closes

module _ (predicate : Predicate) (cs rest argument : List ℕ) (is : argument ≡ without_spaces_behind (text_front cs)) where
  pub closed_no_platform : is_no_platform predicate argument ≡ true
      → closed_text predicate cs rest
      ≡ reports (fault_at argument (drop (length argument) cs) (flaws.Unexpected expect.HostOrTarget))
  closed_no_platform refused = rw (sym is, refused) refl

  pub closed_unjudged : is_no_platform predicate argument ≡ false → has_before_end is_opening cs ≡ true
      → closed_text predicate cs rest ≡ unjudged
  closed_unjudged fine opens = rw (sym is, fine, opens) refl

  pub closed_rightly : is_no_platform predicate argument ≡ false → has_before_end is_opening cs ≡ false
      → closed_text predicate cs rest ≡ goes_on Operator rest
  closed_rightly fine none = rw (sym is, fine, none) refl

pub text_ends_at : (cs : List ℕ) (c : ℕ) (rest : List ℕ) → text_end cs ≡ c ∷ rest → BeginsAsEnd ends_text (c ∷ rest)
text_ends_at cs c rest is = subst (BeginsAsEnd ends_text) is (end_in ends_text is_unknown_escape cs).1
