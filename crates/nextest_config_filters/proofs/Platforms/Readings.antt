-- What is read of `cfg(..)` leaves a rest of it.
use Rattle.std.proofs.Common.{◌≡◌, ℕ, ◌≤◌, true, List, [], ◌∷◌, Option, Some, None, refl, sym, ap, subst, inl, inr, arith, eqb-true}
use Rattle.std.specs.Prelude.{◌==◌, ◌&&◌, ◌||◌, if◌then◌else◌}
use Rattle.std.proofs.lemmas.Bool.{cases_Bool}
use Rattle.std.specs.Char.{is_ascii_digit}
use Rattle.std.specs.Str.{skip_leading_whitespace as behind_spaces}
use Rattle.toml_spans.specs.Characters.{double_quote}
use Rattle.nextest_config_filters.specs.Front.{begins_key, behind_run, bytes_of, closing, comma, equals_sign, in_key, in_run, IsRest, opening, run, without_first}
use Rattle.nextest_config_filters.specs.Platform.Key.{groups, key_flaw}
use Rattle.nextest_config_filters.specs.Platform.Member.{behind_token, behind_value, is_end, is_follower, is_nothing, is_raw, level_at, read, read_closing, read_follower, read_group, read_judged, read_key, read_quoted, read_value, read_word, reading_at, takes_closing, takes_comma, takes_end, takes_member, unexpected, unexpected_value}
use Rattle.nextest_config_filters.specs.Platform.Reading.{closes, ends, fault_between, fault_up_to, FaultAt, member, opens, Reading, reports, separates, unjudged}
use Rattle.nextest_config_filters.specs.Text.{is_one_of}
use Rattle.nextest_config_filters.specs.declared.front.Run.TheVariants as runs
use Rattle.nextest_config_filters.specs.declared.platform.flaw.PlatformFlaw.{PlatformFlaw}
use Rattle.nextest_config_filters.specs.declared.platform.flaw.PlatformFlaw.TheVariants as flaws
use Rattle.nextest_config_filters.specs.declared.platform.reading.After.{After}
use Rattle.nextest_config_filters.specs.declared.platform.reading.Level.{Level}
use Rattle.nextest_config_filters.proofs.Fronts.{rest_behind, rest_within, run_in, spaces_in, without_first_rest}
use Rattle.nextest_config_filters.proofs.Platforms.Rests.{behind_first, behind_on, behind_within, bytes_at, bytes_fit, bytes_within, IsBehind, IsBytes, token_rest}
use Rattle.nextest_config_filters.proofs.Tests.{by_test, first_true}

-- what is reported are bytes of the text
pub record IsReportedIn (cs : List ℕ) (reported : FaultAt) : Type 0 where
  pub from : IsBytes cs reported.from
  pub behind : IsBytes cs reported.behind
  pub in_order : reported.behind ≤ reported.from

-- and so are those of a level
pub record IsLevelIn (cs : List ℕ) (level : Level) : Type 0 where
  pub from : IsBytes cs level.from
  pub opening : IsBytes cs level.opening
  pub opened : IsBytes cs level.opened
  pub inside : level.opened ≤ level.opening

-- a level that opens before this
pub record Opens (cs : List ℕ) (level : Level) (rest : List ℕ) : Type 0 where
  pub level_in : IsLevelIn cs level
  pub empty : level.members ≡ 0
  pub around : bytes_of rest ≤ level.from
  pub behind : IsBehind cs rest

-- what is read leaves a rest, behind one character at least where it goes on
abbrev pub Leaves : List ℕ → Reading → Type 0
Leaves cs (separates rest) = IsBehind cs rest
Leaves cs (member rest) = IsBehind cs rest
Leaves cs (opens level rest) = Opens cs level rest
Leaves cs (closes closed) = IsRest cs closed × IsBehind cs (without_first closed)
Leaves cs (ends rest) = IsRest cs rest
Leaves cs unjudged = Unit {0}
Leaves cs (reports reported) = IsReportedIn cs reported

-- ---- rests of rests

pub reported_within : (cs inner : List ℕ) (reported : FaultAt) → IsRest cs inner → IsReportedIn inner reported → IsReportedIn cs reported
reported_within cs inner reported is reported_in = record {
  from = bytes_within cs inner reported.from is reported_in.from;
  behind = bytes_within cs inner reported.behind is reported_in.behind;
  in_order = reported_in.in_order;
}

pub level_within : (cs inner : List ℕ) (level : Level) → IsRest cs inner → IsLevelIn inner level → IsLevelIn cs level
level_within cs inner level is level_in = record {
  from = bytes_within cs inner level.from is level_in.from;
  opening = bytes_within cs inner level.opening is level_in.opening;
  opened = bytes_within cs inner level.opened is level_in.opened;
  inside = level_in.inside;
}

leaves_within : (cs inner : List ℕ) (reading : Reading) → IsRest cs inner → Leaves inner reading → Leaves cs reading
leaves_within cs inner (separates rest) is left = behind_within cs inner rest is left
leaves_within cs inner (member rest) is left = behind_within cs inner rest is left
leaves_within cs inner (opens level rest) is left = record {
  level_in = level_within cs inner level is left.level_in;
  empty = left.empty;
  around = left.around;
  behind = behind_within cs inner rest is left.behind;
}
leaves_within cs inner (closes closed) is left =
    (rest_within cs inner closed is left.0, behind_within cs inner (without_first closed) is left.1)
leaves_within cs inner (ends rest) is left = rest_within cs inner rest is left
leaves_within cs inner unjudged is left = tt
leaves_within cs inner (reports reported) is left = reported_within cs inner reported is left

-- ---- what isn't expected

pub fault_up_to_in : (cs rest : List ℕ) (flaw : PlatformFlaw) → IsRest cs rest → IsReportedIn cs (fault_up_to cs rest flaw)
fault_up_to_in cs rest flaw is =
    record { from = bytes_at cs cs ([], refl); behind = bytes_at cs rest is; in_order = bytes_fit cs rest is }

pub value_rest : (cs rest : List ℕ) → behind_value cs ≡ Some rest → IsRest cs rest
value_rest cs rest is =
    let end = behind_run (in_run runs.Value) cs in
    elim (cases_Bool (is_nothing end)) [
      | inl none ↦ let no : None ≡ Some rest = rw none at is in cc no
      | inr some ↦
          let left : Some (without_first end) ≡ Some rest = rw some at is in
          let same : without_first end ≡ rest = cc left in
          subst (IsRest cs) same (rest_within cs end (without_first end) (run_in (in_run runs.Value) cs) (without_first_rest end))
    ]

leaves_value : (c : ℕ) (cs : List ℕ) (found : Option (List ℕ)) → behind_value cs ≡ found
    → Leaves (c ∷ cs) (unexpected_value found (c ∷ cs))
leaves_value c cs None is = fault_up_to_in (c ∷ cs) cs flaws.ValueNotClosed (c ∷ [], refl)
leaves_value c cs (Some rest) is =
    fault_up_to_in (c ∷ cs) rest flaws.Unexpected (rest_behind c cs rest (value_rest cs rest is))

place_in : (cs : List ℕ) → IsReportedIn cs (fault_between (bytes_of cs) (bytes_of cs) flaws.Unexpected)
place_in cs = record { from = bytes_at cs cs ([], refl); behind = bytes_at cs cs ([], refl); in_order = omega arith }

leaves_unexpected : (cs : List ℕ) → Leaves cs (unexpected cs)
leaves_unexpected [] = place_in []
leaves_unexpected (c ∷ cs) =
    let place = reports (fault_between (bytes_of (c ∷ cs)) (bytes_of (c ∷ cs)) flaws.Unexpected) in
    let token = reports (fault_up_to (c ∷ cs) (behind_token c cs) flaws.Unexpected) in
    let end = if is_end c cs then place else token in
    by_test (Leaves (c ∷ cs)) (is_raw c cs) unjudged
    (if c == double_quote then unexpected_value (behind_value cs) (c ∷ cs) else end)
    (λ raw. tt)
    (λ other. by_test (Leaves (c ∷ cs)) (c == double_quote) (unexpected_value (behind_value cs) (c ∷ cs)) end
    (λ quote. leaves_value c cs (behind_value cs) refl)
    (λ no_quote. by_test (Leaves (c ∷ cs)) (is_end c cs) place token (λ is. place_in (c ∷ cs))
    (λ no_end. fault_up_to_in (c ∷ cs) (behind_token c cs) flaws.Unexpected
    (rest_behind c cs (behind_token c cs) (token_rest c cs)))))

unexpected_at : (cs rest : List ℕ) → IsRest cs rest → Leaves cs (unexpected rest)
unexpected_at cs rest is = leaves_within cs rest (unexpected rest) is (leaves_unexpected rest)

-- ---- members

leaves_judged : (flaw : Option PlatformFlaw) (cs rest : List ℕ) → IsBehind cs rest → Leaves cs (read_judged flaw cs rest)
leaves_judged None cs rest is = is
leaves_judged (Some flaw) cs rest is = fault_up_to_in cs (behind_run in_key cs) flaw (run_in in_key cs)

leaves_follower : (cs : List ℕ) (value : Option (List ℕ)) (rest : List ℕ) → IsBehind cs rest
    → Leaves cs (read_follower cs value rest)
leaves_follower cs value rest is =
    by_test (Leaves cs) (is_follower rest) (read_judged (key_flaw (run in_key cs) value) cs rest) (unexpected rest)
    (λ follows. leaves_judged (key_flaw (run in_key cs) value) cs rest is)
    (λ other. unexpected_at cs rest is.rest)

leaves_quoted : (cs : List ℕ) (value : Option (List ℕ)) (quoted : List ℕ) → IsBehind cs (double_quote ∷ quoted)
    → behind_value quoted ≡ value → Leaves cs (read_quoted cs value quoted)
leaves_quoted cs None quoted is found = unexpected_at cs (double_quote ∷ quoted) is.rest
leaves_quoted cs (Some behind) quoted is found =
    leaves_follower cs (Some (run (in_run runs.Value) quoted)) (behind_spaces behind)
    (behind_on cs (double_quote ∷ quoted) (behind_spaces behind) is
    (rest_behind double_quote quoted (behind_spaces behind)
    (rest_within quoted behind (behind_spaces behind) (value_rest quoted behind found) (spaces_in behind))))

leaves_key_value : (cs rest : List ℕ) → IsBehind cs rest → Leaves cs (read_value cs rest)
leaves_key_value cs [] is = unexpected_at cs [] is.rest
leaves_key_value cs (c ∷ rest) is =
    by_test (Leaves cs) (c == double_quote) (read_quoted cs (behind_value rest) rest) (unexpected (c ∷ rest))
    (λ quote. leaves_quoted cs (behind_value rest) rest
    (subst (λ d. IsBehind cs (d ∷ rest)) (eqb-true c double_quote quote) is) refl)
    (λ other. unexpected_at cs (c ∷ rest) is.rest)

leaves_key : (cs rest : List ℕ) → IsBehind cs rest → Leaves cs (read_key cs rest)
leaves_key cs [] is = leaves_follower cs None [] is
leaves_key cs (c ∷ rest) is =
    by_test (Leaves cs) (c == equals_sign) (read_value cs (behind_spaces rest)) (read_follower cs None (c ∷ rest))
    (λ equals. leaves_key_value cs (behind_spaces rest)
    (behind_on cs (c ∷ rest) (behind_spaces rest) is (rest_behind c rest (behind_spaces rest) (spaces_in rest))))
    (λ other. leaves_follower cs None (c ∷ rest) is)

leaves_group : (cs rest : List ℕ) → IsBehind cs rest → Leaves cs (read_group cs rest)
leaves_group cs [] is = unexpected_at cs [] is.rest
leaves_group cs (c ∷ opened) is =
    let inside = behind_on cs (c ∷ opened) opened is (c ∷ [], refl) in
    by_test (Leaves cs) (c == opening) (opens (level_at cs (c ∷ opened)) opened) (unexpected (c ∷ opened))
    (λ begins. record {
      level_in = record {
        from = bytes_at cs cs ([], refl);
        opening = bytes_at cs (c ∷ opened) is.rest;
        opened = bytes_at cs opened inside.rest;
        inside = bytes_fit (c ∷ opened) opened (c ∷ [], refl);
      };
      empty = refl;
      around = bytes_fit cs opened inside.rest;
      behind = inside;
    })
    (λ other. unexpected_at cs (c ∷ opened) is.rest)

-- a key has a character at least
key_behind : (c : ℕ) (cs : List ℕ) → begins_key c ≡ true → IsBehind (c ∷ cs) (behind_run in_key (c ∷ cs))
key_behind c cs begins =
    let goes_on : in_key c ≡ true = ap (λ b. b || is_ascii_digit c) begins in
    rw goes_on (behind_first c cs (behind_run in_key cs) (run_in in_key cs))

leaves_word : (c : ℕ) (cs : List ℕ) → begins_key c ≡ true → Leaves (c ∷ cs) (read_word (c ∷ cs))
leaves_word c cs begins =
    let behind = behind_run in_key (c ∷ cs) in
    let is = behind_on (c ∷ cs) behind (behind_spaces behind) (key_behind c cs begins) (spaces_in behind) in
    by_test (Leaves (c ∷ cs)) (is_one_of (run in_key (c ∷ cs)) groups) (read_group (c ∷ cs) (behind_spaces behind))
    (read_key (c ∷ cs) (behind_spaces behind))
    (λ group. leaves_group (c ∷ cs) (behind_spaces behind) is)
    (λ key. leaves_key (c ∷ cs) (behind_spaces behind) is)

-- ---- places

leaves_closing : (before : After) (cs : List ℕ) → Leaves (closing ∷ cs) (read_closing before cs)
leaves_closing before cs =
    let other = unexpected (closing ∷ cs) in
    let left = leaves_unexpected (closing ∷ cs) in
    by_test (Leaves (closing ∷ cs)) (is_end closing cs) (if takes_end before then ends cs else other)
    (if takes_closing before then closes (closing ∷ cs) else other)
    (λ end. by_test (Leaves (closing ∷ cs)) (takes_end before) (ends cs) other (λ takes. (closing ∷ [], refl)) (λ no. left))
    (λ inner. by_test (Leaves (closing ∷ cs)) (takes_closing before) (closes (closing ∷ cs)) other
    (λ takes. (([], refl), behind_first closing cs cs ([], refl))) (λ no. left))

leaves_read : (before : After) (cs : List ℕ) → Leaves cs (read before cs)
leaves_read before [] = leaves_unexpected []
leaves_read before (c ∷ cs) =
    let other = unexpected (c ∷ cs) in
    let at_closing = if c == closing then read_closing before cs else other in
    let at_comma = if c == comma && takes_comma before then separates cs else at_closing in
    by_test (Leaves (c ∷ cs)) (is_raw c cs) unjudged
    (if begins_key c && takes_member before then read_word (c ∷ cs) else at_comma)
    (λ raw. tt)
    (λ no_raw. by_test (Leaves (c ∷ cs)) (begins_key c && takes_member before) (read_word (c ∷ cs)) at_comma
    (λ word. leaves_word c cs (first_true (begins_key c) (takes_member before) word))
    (λ no_word. by_test (Leaves (c ∷ cs)) (c == comma && takes_comma before) (separates cs) at_closing
    (λ is_comma. behind_first c cs cs ([], refl))
    (λ no_comma. by_test (Leaves (c ∷ cs)) (c == closing) (read_closing before cs) other
    (λ closes_one. subst (λ d. Leaves (d ∷ cs) (read_closing before cs)) (sym (eqb-true c closing closes_one)) (leaves_closing before cs))
    (λ no_closing. leaves_unexpected (c ∷ cs)))))

pub leaves_rest : (before : After) (cs : List ℕ) → Leaves cs (reading_at before cs)
unfolding reading_at
leaves_rest before cs =
    leaves_within cs (behind_spaces cs) (read before (behind_spaces cs)) (spaces_in cs)
    (leaves_read before (behind_spaces cs))
