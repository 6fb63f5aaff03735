-- Steps of a walk.
use Rattle.std.proofs.Common.{◌≡◌, ◌≢◌, ◌↔◌, ℕ, ◌+◌, ◌<◌, ◌≤◌, List, [], ◌∷◌, ◌++◌, length, Option, Some, None, refl, sym, ◌∙◌, arith, append-nil}
use Rattle.std.specs.Prelude.{MatchOption, option_map}
use Rattle.std.specs.List.{AllByRecursion}
use Rattle.std.specs.Str.{skip_leading_whitespace as behind_spaces}
use Rattle.nextest_config_filters.specs.Filter.Fault.{IsReported, IsReportedBehind}
use Rattle.nextest_config_filters.specs.Filter.Reading.{closes, ends, fault_at, fault_view, FaultAt, goes_on, opens, Reading, reports, unjudged}
use Rattle.nextest_config_filters.specs.Filter.Regex.{judged_at}
use Rattle.nextest_config_filters.specs.Filter.Walk.{Finds, next, next_of, reported_in, reported_of, start, State}
use Rattle.nextest_config_filters.specs.Front.{closing, IsRest, opening}
use Rattle.nextest_config_filters.specs.declared.fault.FilterFlaw.TheVariants as flaws
use Rattle.nextest_config_filters.specs.declared.filter.FilterPlace.{FilterPlace}
use Rattle.nextest_config_filters.specs.declared.filter.reading.Expects.{Expects}
use Rattle.nextest_config_filters.specs.declared.filter.reading.FaultAt.{FaultAt as OwnFaultAt}
use Rattle.nextest_config_filters.proofs.Filters.Readings.{Leaves}
use Rattle.nextest_config_filters.proofs.Filters.Regexes.{leaves_judged}
use Rattle.nextest_config_filters.proofs.Fronts.{past, rest_within}
use Rattle.nextest_config_filters.proofs.Steps.{kept_on, walked_once}
use Rattle.nextest_config_filters.proofs.Tests.{as_there}

-- ---- what steps keep

-- of a state, what is left is a rest of the characters, and so is what stands behind an open parenthesis
pub record IsWithin (cs : List ℕ) (state : State) : Type 0 where
  pub rest : IsRest cs state.rest
  pub open_ones : AllByRecursion (λ opened. IsRest cs (opening ∷ opened)) state.open_ones
  pub room : length state.open_ones + length state.rest ≤ length cs

pub within_at_start : (cs : List ℕ) → IsWithin cs (start cs)
within_at_start cs = record { rest = ([], refl); open_ones = tt; room = omega arith }

module _ (cs : List ℕ) (expects : Expects) (rest : List ℕ) where
  -- what a step keeps, and that it leaves less
  abbrev Keeps : State → Type 0
  Keeps over = IsWithin cs over × (length over.rest < length rest)

  after_reading : (reading : Reading) (open_ones : List (List ℕ)) (over : State)
      → IsWithin cs (record { expects = expects; open_ones = open_ones; rest = rest }) → Leaves rest reading
      → next_of reading open_ones ≡ Some over → Keeps over
  after_reading (goes_on further left) open_ones over within leaves is =
      as_there Keeps _ over is (
        record {
          rest = rest_within cs rest left within.rest leaves.0;
          open_ones = within.open_ones;
          room = omega (arith, within.room, leaves.1);
        },
        leaves.1,
      )
  after_reading (opens left) open_ones over within leaves is =
      let behind = past rest left opening leaves in
      as_there Keeps _ over is (
        record {
          rest = rest_within cs rest left within.rest behind.0;
          open_ones = (rest_within cs rest (opening ∷ left) within.rest leaves, within.open_ones);
          room = omega (arith, within.room, behind.1);
        },
        behind.1,
      )
  after_reading (closes left) [] over within leaves is = cc is
  after_reading (closes left) (last ∷ others) over within leaves is =
      let behind = past rest left closing leaves in
      as_there Keeps _ over is (
        record {
          rest = rest_within cs rest left within.rest behind.0;
          open_ones = within.open_ones.1;
          room = omega (arith, within.room, behind.1);
        },
        behind.1,
      )
  after_reading ends open_ones over within leaves is = cc is
  after_reading unjudged open_ones over within leaves is = cc is
  after_reading (reports reported) open_ones over within leaves is = cc is

  -- a fault stands in the text
  abbrev IsInText : FaultAt → Type 0
  IsInText fault = IsRest cs (fault.what ++ fault.behind)

  reported_within : (reading : Reading) (open_ones : List (List ℕ)) (reported : FaultAt)
      → IsWithin cs (record { expects = expects; open_ones = open_ones; rest = rest }) → Leaves rest reading
      → reported_of reading open_ones ≡ Some reported → IsInText reported
  reported_within (goes_on further left) open_ones reported within leaves is = cc is
  reported_within (opens left) open_ones reported within leaves is = cc is
  reported_within (closes left) [] reported within leaves is =
      as_there IsInText _ reported is (rest_within cs rest (closing ∷ left) within.rest leaves)
  reported_within (closes left) (last ∷ others) reported within leaves is = cc is
  reported_within ends [] reported within leaves is = cc is
  reported_within ends (last ∷ others) reported within leaves is =
      as_there IsInText _ reported is within.open_ones.0
  reported_within unjudged open_ones reported within leaves is = cc is
  reported_within (reports t) open_ones reported within leaves is =
      as_there IsInText _ reported is (rest_within cs rest (t.what ++ t.behind) within.rest leaves)

module _ (place : FilterPlace) (cs : List ℕ) where
  pub next_within : (state over : State) → IsWithin cs state → next place state ≡ Some over
      → IsWithin cs over × (length over.rest < length state.rest)
  next_within state over within is =
      after_reading cs state.expects state.rest (judged_at place state.expects state.rest) state.open_ones over within
      (leaves_judged place state.expects state.rest) is

  -- what is reported stands in the text
  found_in_text : (reported : FaultAt) → Finds place cs (Some reported) → IsRest cs (reported.what ++ reported.behind)
  found_in_text reported is =
      let state = is.state in
      reported_within cs state.expects state.rest (judged_at place state.expects state.rest) state.open_ones reported
      (kept_on (next place) (IsWithin cs) (λ from over within one. (next_within from over within one).0)
      (start cs) state is.leads (within_at_start cs))
      (leaves_judged place state.expects state.rest) is.finds

  reported_rest_by : (spaceless : List ℕ) (reported : FaultAt) → IsReportedBehind place spaceless cs reported
      → IsRest cs (reported.what ++ reported.behind)
  reported_rest_by [] reported is = rw is ([], sym (append-nil cs))
  reported_rest_by (c ∷ behind) reported is = found_in_text reported is

  pub reported_rest : (reported : FaultAt) → IsReported place cs reported → IsRest cs (reported.what ++ reported.behind)
  reported_rest reported is = reported_rest_by (behind_spaces cs) reported is

  -- ---- one thing is reported

  found_once : (one other : Option FaultAt) → Finds place cs one → Finds place cs other → one ≡ other
  found_once one other a b = walked_once (next place) (reported_in place) (start cs) one other a b

  once_by : (spaceless : List ℕ) (one other : FaultAt) → IsReportedBehind place spaceless cs one
      → IsReportedBehind place spaceless cs other → one ≡ other
  once_by [] one other a b = a ∙ sym b
  once_by (c ∷ behind) one other a b = let same = found_once (Some one) (Some other) a b in cc same

  pub reported_once : (one other : FaultAt) → IsReported place cs one → IsReported place cs other → one ≡ other
  reported_once one other a b = once_by (behind_spaces cs) one other a b

  -- a text of spaces is reported as empty
  pub reported_empty : (reported : FaultAt) → behind_spaces cs ≡ [] → reported ≡ fault_at cs [] flaws.Empty
      → IsReported place cs reported
  reported_empty reported none is = rw none is

  -- ---- what a walk finds

  -- of more than spaces
  pub behind_some : (spaceless : List ℕ) → spaceless ≢ [] → (reported : FaultAt)
      → IsReportedBehind place spaceless cs reported ↔ Finds place cs (Some reported)
  behind_some [] some reported = absurd (some refl)
  behind_some (c ∷ behind) some reported = ((λ is. is), (λ is. is))

  pub walked_either : behind_spaces cs ≢ [] → (own : Option OwnFaultAt) → Finds place cs (option_map fault_view own)
      → MatchOption own ((reported : FaultAt) → ¬ IsReported place cs reported)
      (λ reported. IsReported place cs (fault_view reported))
  walked_either some None walked = λ reported is.
      let no = found_once None (Some reported) walked ((behind_some (behind_spaces cs) some reported).0 is) in cc no
  walked_either some (Some own) walked = (behind_some (behind_spaces cs) some (fault_view own)).1 walked
