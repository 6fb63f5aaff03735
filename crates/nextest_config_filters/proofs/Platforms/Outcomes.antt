-- One outcome, and what is reported of it.
use Rattle.std.proofs.Common.{◌≡◌, ℕ, ◌≤◌, Bool, true, false, List, [], drop, length, Option, Some, None, refl, sym, ◌∙◌, subst, arith}
use Rattle.std.specs.Prelude.{codes}
use Rattle.std.specs.Str.{drop_trailing_whitespace as without_spaces_behind, skip_leading_whitespace as behind_spaces}
use Rattle.nextest_config_filters.specs.Front.{behind, bytes_of, IsRest}
use Rattle.nextest_config_filters.specs.Platform.Fault.{AreBytesOf}
use Rattle.nextest_config_filters.specs.Platform.Outcome.{is_closed, IsCfgOutcome, IsOutcome, IsOutcomeBy, name_flaw, outcome_by}
use Rattle.nextest_config_filters.specs.Platform.Reading.{FaultAt, not_closed}
use Rattle.nextest_config_filters.specs.Platform.Walk.{first_level, next, Outcome, outcome_at, start, wrong}
use Rattle.nextest_config_filters.specs.declared.platform.flaw.PlatformFlaw.{PlatformFlaw}
use Rattle.nextest_config_filters.proofs.Fronts.{front_dropped, spaces_in, without_spaces_front}
use Rattle.nextest_config_filters.proofs.Platforms.Readings.{IsReportedIn, reported_within}
use Rattle.nextest_config_filters.proofs.Platforms.Rests.{bytes_at, bytes_fit, IsBytes}
use Rattle.nextest_config_filters.proofs.Platforms.Steps.{within_at_start, wrong_in}
use Rattle.nextest_config_filters.proofs.Steps.{walked_once}

-- ---- one outcome

once_closed : (closed : Bool) (cs opened : List ℕ) (a b : Outcome) → IsCfgOutcome closed cs opened a
    → IsCfgOutcome closed cs opened b → a ≡ b
once_closed false cs opened a b one other = one ∙ sym other
once_closed true cs opened a b one other = walked_once next outcome_at (start cs opened) a b one other

once_by : (found : Option (List ℕ)) (cs : List ℕ) (a b : Outcome) → IsOutcomeBy found cs a → IsOutcomeBy found cs b → a ≡ b
once_by None cs a b one other = one ∙ sym other
once_by (Some opened) cs a b one other = once_closed (is_closed false (without_spaces_behind cs)) cs opened a b one other

pub outcome_once : (cs : List ℕ) (a b : Outcome) → IsOutcome cs a → IsOutcome cs b → a ≡ b
outcome_once cs a b one other = once_by (behind (codes "cfg(") cs) cs a b one other

-- where something else is found, nothing is reported
pub none_wrong : (cs : List ℕ) (a : Outcome) (reported : FaultAt) → (a ≡ wrong reported → ⊥) → IsOutcome cs a
    → IsOutcome cs (wrong reported) → ⊥
none_wrong cs a reported other is also = other (outcome_once cs a (wrong reported) is also)

-- ---- what is reported stands in the text

wrong_outside : (flaw : Option PlatformFlaw) (cs : List ℕ) (reported : FaultAt)
    → outcome_by flaw (without_spaces_behind cs) cs ≡ wrong reported → IsReportedIn cs reported
wrong_outside None cs reported is = cc is
wrong_outside (Some flaw) cs reported is =
    let name = without_spaces_behind cs in
    let left = drop (length name) cs in
    let rest : IsRest cs left = (name, front_dropped name cs (without_spaces_front cs)) in
    let what : FaultAt = record { from = bytes_of cs; behind = bytes_of left; flaw = flaw; found = name } in
    let same : what ≡ reported = cc is in
    subst (IsReportedIn cs) same
    (record { from = bytes_at cs cs ([], refl); behind = bytes_at cs left rest; in_order = bytes_fit cs left rest })

wrong_cfg : (closed : Bool) (cs opened : List ℕ) (reported : FaultAt) → behind (codes "cfg(") cs ≡ Some opened
    → IsCfgOutcome closed cs opened (wrong reported) → IsReportedIn cs reported
wrong_cfg false cs opened reported begins is =
    let level_in = (within_at_start cs opened begins).level.level_in in
    let same : not_closed (first_level cs opened) ≡ reported = cc is in
    subst (IsReportedIn cs) same
    (record { from = level_in.opening; behind = level_in.opened; in_order = level_in.inside })
wrong_cfg true cs opened reported begins is = wrong_in cs (start cs opened) reported (within_at_start cs opened begins) is

wrong_by : (found : Option (List ℕ)) (cs : List ℕ) (reported : FaultAt) → behind (codes "cfg(") cs ≡ found
    → IsOutcomeBy found cs (wrong reported) → IsReportedIn cs reported
wrong_by None cs reported begins is = wrong_outside (name_flaw (without_spaces_behind cs)) cs reported (sym is)
wrong_by (Some opened) cs reported begins is =
    wrong_cfg (is_closed false (without_spaces_behind cs)) cs opened reported begins is

-- also of a text with spaces at its front
pub reported_in_text : (cs : List ℕ) (reported : FaultAt) → IsOutcome (behind_spaces cs) (wrong reported) → IsReportedIn cs reported
reported_in_text cs reported is =
    let inner = behind_spaces cs in
    reported_within cs inner reported (spaces_in cs) (wrong_by (behind (codes "cfg(") inner) inner reported refl is)

bytes_in : (cs : List ℕ) (n : ℕ) → IsBytes cs n → n ≤ bytes_of cs
bytes_in cs n bytes =
    let fits = bytes_fit cs bytes.part bytes.rest in omega (arith, bytes.size)

pub bytes_reported : (cs : List ℕ) (reported : FaultAt) → IsReportedIn cs reported → AreBytesOf reported (bytes_of cs)
bytes_reported cs reported is =
    record { from = bytes_in cs reported.from is.from; behind = bytes_in cs reported.behind is.behind }
