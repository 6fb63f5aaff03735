-- Steps of a walk through `cfg(..)`.
use Rattle.std.proofs.Common.{◌≡◌, ℕ, ◌+◌, ◌<◌, ◌≤◌, List, [], ◌∷◌, ◌++◌, length, Some, None, refl, subst, inl, inr, arith}
use Rattle.std.specs.Prelude.{codes, nat_lt, if◌then◌else◌}
use Rattle.std.proofs.lemmas.Bool.{cases_Bool}
use Rattle.std.specs.List.{AllByRecursion}
use Rattle.nextest_config_filters.specs.Front.{behind, bytes_of, IsRest, opening, without_first}
use Rattle.nextest_config_filters.specs.Platform.Member.{reading_at}
use Rattle.nextest_config_filters.specs.Platform.Reading.{closes, ends, fault_of_level, FaultAt, member, not_closed, not_open, opens, Reading, reports, separates, unjudged}
use Rattle.nextest_config_filters.specs.Platform.Walk.{Finds, is_miscounted, next, next_of, outcome_end, outcome_of, outcome_whole, passes, start, State, with_group, with_member, wrong}
use Rattle.nextest_config_filters.specs.declared.platform.flaw.PlatformFlaw.{PlatformFlaw}
use Rattle.nextest_config_filters.specs.declared.platform.flaw.PlatformFlaw.TheVariants as flaws
use Rattle.nextest_config_filters.specs.declared.platform.reading.After.{After}
use Rattle.nextest_config_filters.specs.declared.platform.reading.After.TheVariants as after
use Rattle.nextest_config_filters.specs.declared.platform.reading.Level.{Level}
use Rattle.nextest_config_filters.proofs.Characters.{behind_whole}
use Rattle.nextest_config_filters.proofs.Fronts.{rest_fits, rest_within, without_first_rest}
use Rattle.nextest_config_filters.proofs.Platforms.Readings.{fault_up_to_in, IsLevelIn, IsReportedIn, Leaves, leaves_rest, level_within, reported_within}
use Rattle.nextest_config_filters.proofs.Platforms.Rests.{bytes_at, bytes_fit, IsBehind}
use Rattle.nextest_config_filters.proofs.Steps.{kept_on}
use Rattle.nextest_config_filters.proofs.Tests.{as_there}

-- ---- what steps keep

-- a level that is open, before this rest
pub record IsOpenIn (cs rest : List ℕ) (level : Level) : Type 0 where
  pub level_in : IsLevelIn cs level
  pub room : level.members + length rest ≤ length cs
  pub around : bytes_of rest ≤ level.from

pub record IsWithin (cs : List ℕ) (state : State) : Type 0 where
  pub rest : IsRest cs state.rest
  pub level : IsOpenIn cs state.rest state.level
  pub outer : AllByRecursion (IsOpenIn cs state.rest) state.outer

pub within_at_start : (cs opened : List ℕ) → behind (codes "cfg(") cs ≡ Some opened → IsWithin cs (start cs opened)
within_at_start cs opened is =
    let whole : cs ≡ codes "cfg(" ++ opened = behind_whole (codes "cfg(") cs opened is in
    let rest : IsRest cs opened = (codes "cfg(", whole) in
    record {
      rest = rest;
      level = record {
        level_in = record {
          from = bytes_at cs cs ([], refl);
          opening = bytes_at cs (opening ∷ opened) (codes "cfg", whole);
          opened = bytes_at cs opened rest;
          inside = bytes_fit (opening ∷ opened) opened (opening ∷ [], refl);
        };
        room = omega (arith, rest_fits cs opened rest);
        around = bytes_fit cs opened rest;
      };
      outer = tt;
    }

narrower : (cs rest left : List ℕ) (level : Level) → IsRest rest left → IsOpenIn cs rest level → IsOpenIn cs left level
narrower cs rest left level is within =
    let fits = rest_fits rest left is in
    let bytes = bytes_fit rest left is in
    record { level_in = within.level_in; room = omega (arith, within.room); around = omega (arith, within.around) }

all_narrower : (cs rest left : List ℕ) (levels : List Level) → IsRest rest left
    → AllByRecursion (IsOpenIn cs rest) levels → AllByRecursion (IsOpenIn cs left) levels
all_narrower cs rest left [] is all = tt
all_narrower cs rest left (level ∷ levels) is all =
    (narrower cs rest left level is all.0, all_narrower cs rest left levels is all.1)

one_more : (cs rest left : List ℕ) (level : Level) → IsBehind rest left → IsOpenIn cs rest level
    → IsOpenIn cs left (with_member level)
one_more cs rest left level behind within =
    let bytes = bytes_fit rest left behind.rest in
    record {
      level_in = record {
        from = within.level_in.from;
        opening = within.level_in.opening;
        opened = within.level_in.opened;
        inside = within.level_in.inside;
      };
      room = omega (arith, within.room, behind.shorter);
      around = omega (arith, within.around);
    }

group_more : (cs rest left : List ℕ) (level : Level) (outer : List Level) → IsBehind rest left → IsOpenIn cs rest level
    → IsOpenIn cs left (with_group level outer)
group_more cs rest left level [] behind within = narrower cs rest left level behind.rest within
group_more cs rest left level (around ∷ outer) behind within = one_more cs rest left level behind within

module _ (cs : List ℕ) (before : After) (level : Level) (rest : List ℕ) where
  -- the state, with these levels around
  abbrev at : List Level → State
  at outer = record { before = before; level = level; outer = outer; rest = rest }

  -- what a step keeps, and that it leaves less
  abbrev Keeps : State → Type 0
  Keeps over = IsWithin cs over × (length over.rest < length rest)

  after_closing : (closed : List ℕ) (outer : List Level) (over : State) → IsWithin cs (at outer)
      → Leaves rest (closes closed) → next_of (closes closed) level outer ≡ Some over → Keeps over
  after_closing closed [] over within leaves is = cc is
  after_closing closed (around ∷ outer) over within leaves is = elim (cases_Bool (is_miscounted level)) [
    | inl miscounted ↦ let no : None ≡ Some over = rw miscounted at is in cc no
    | inr counted ↦
        let left = without_first closed in
        let next_is : Some (record { before = after.Member; level = around; outer = outer; rest = left }) ≡ Some over = rw counted at is in
        as_there Keeps _ over next_is (
          record {
            rest = rest_within cs rest left within.rest leaves.1.rest;
            level = narrower cs rest left around leaves.1.rest within.outer.0;
            outer = all_narrower cs rest left outer leaves.1.rest within.outer.1;
          },
          leaves.1.shorter,
        )
  ]

  after_reading : (reading : Reading) (outer : List Level) (over : State) → IsWithin cs (at outer) → Leaves rest reading
      → next_of reading level outer ≡ Some over → Keeps over
  after_reading (separates left) outer over within leaves is =
      as_there Keeps _ over is (
        record {
          rest = rest_within cs rest left within.rest leaves.rest;
          level = narrower cs rest left level leaves.rest within.level;
          outer = all_narrower cs rest left outer leaves.rest within.outer;
        },
        leaves.shorter,
      )
  after_reading (member left) outer over within leaves is =
      as_there Keeps _ over is (
        record {
          rest = rest_within cs rest left within.rest leaves.rest;
          level = one_more cs rest left level leaves within.level;
          outer = all_narrower cs rest left outer leaves.rest within.outer;
        },
        leaves.shorter,
      )
  after_reading (opens inner left) outer over within leaves is =
      let left_in = rest_within cs rest left within.rest leaves.behind.rest in
      as_there Keeps _ over is (
        record {
          rest = left_in;
          level = record {
            level_in = level_within cs rest inner within.rest leaves.level_in;
            room = omega (arith, leaves.empty, rest_fits cs left left_in);
            around = leaves.around;
          };
          outer = (group_more cs rest left level outer leaves.behind within.level, all_narrower cs rest left outer leaves.behind.rest within.outer);
        },
        leaves.behind.shorter,
      )
  after_reading (closes closed) outer over within leaves is = after_closing closed outer over within leaves is
  after_reading (ends left) outer over within leaves is = cc is
  after_reading unjudged outer over within leaves is = cc is
  after_reading (reports reported) outer over within leaves is = cc is

pub next_within : (cs : List ℕ) (state over : State) → IsWithin cs state → next state ≡ Some over
    → IsWithin cs over × (length over.rest < length state.rest)
next_within cs state over within is =
    after_reading cs state.before state.level state.rest (reading_at state.before state.rest) state.outer over within
    (leaves_rest state.before state.rest) is

-- ---- what is reported stands in the text

level_reported : (cs rest left : List ℕ) (level : Level) (flaw : PlatformFlaw) → IsRest cs rest → IsOpenIn cs rest level
    → IsRest rest left → IsReportedIn cs (fault_of_level level left flaw)
level_reported cs rest left level flaw is within left_is =
    let bytes = bytes_fit rest left left_is in
    record {
      from = within.level_in.from;
      behind = bytes_at cs left (rest_within cs rest left is left_is);
      in_order = omega (arith, within.around);
    }

module _ (cs : List ℕ) (level : Level) (rest : List ℕ) (reported : FaultAt) (is_rest : IsRest cs rest) (open_in : IsOpenIn cs rest level) where
  wrong_closing : (closed : List ℕ) (before : After) (outer : List Level) → Leaves rest (closes closed)
      → outcome_of (closes closed) before level outer ≡ wrong reported → IsReportedIn cs reported
  wrong_closing closed before [] leaves is =
      let same : not_open closed ≡ reported = cc is in
      subst (IsReportedIn cs) same
      (reported_within cs closed (not_open closed) (rest_within cs rest closed is_rest leaves.0)
      (fault_up_to_in closed (without_first closed) flaws.NotOpen (without_first_rest closed)))
  wrong_closing closed before (around ∷ outer) leaves is =
      let what = fault_of_level level (without_first closed) (flaws.NotMembers level.members) in
      elim (cases_Bool (is_miscounted level)) [
        | inl miscounted ↦
            let found : wrong what ≡ wrong reported = rw miscounted at is in
            let same : what ≡ reported = cc found in
            subst (IsReportedIn cs) same
            (level_reported cs rest (without_first closed) level (flaws.NotMembers level.members) is_rest open_in leaves.1.rest)
        | inr counted ↦ let no : passes ≡ wrong reported = rw counted at is in cc no
      ]

  wrong_level : (left : List ℕ) (flaw : PlatformFlaw) → IsRest rest left → wrong (fault_of_level level left flaw) ≡ wrong reported
      → IsReportedIn cs reported
  wrong_level left flaw left_is is =
      let same : fault_of_level level left flaw ≡ reported = cc is in
      subst (IsReportedIn cs) same (level_reported cs rest left level flaw is_rest open_in left_is)

  wrong_many : (left : List ℕ) → IsRest rest left
      → (if nat_lt 1 level.members then wrong (fault_of_level level left flaws.ManyMembers) else passes) ≡ wrong reported
      → IsReportedIn cs reported
  wrong_many left left_is is = elim (cases_Bool (nat_lt 1 level.members)) [
    | inl many ↦ wrong_level left flaws.ManyMembers left_is (rw many at is)
    | inr few ↦ let no : passes ≡ wrong reported = rw few at is in cc no
  ]

  wrong_whole : (before : After) (left : List ℕ) → IsRest rest left → outcome_whole before level left ≡ wrong reported
      → IsReportedIn cs reported
  wrong_whole after.Nothing left left_is is = wrong_level left flaws.NoMember left_is is
  wrong_whole after.Opening left left_is is = wrong_many left left_is is
  wrong_whole after.Comma left left_is is = wrong_many left left_is is
  wrong_whole after.Member left left_is is = wrong_many left left_is is

  wrong_end : (before : After) (outer : List Level) (left : List ℕ) → IsRest rest left
      → outcome_end before level outer left ≡ wrong reported → IsReportedIn cs reported
  wrong_end before [] left left_is is = wrong_whole before left left_is is
  wrong_end before (around ∷ outer) left left_is is =
      let same : not_closed level ≡ reported = cc is in
      subst (IsReportedIn cs) same
      (record { from = open_in.level_in.opening; behind = open_in.level_in.opened; in_order = open_in.level_in.inside })

  wrong_reading : (reading : Reading) (before : After) (outer : List Level) → Leaves rest reading
      → outcome_of reading before level outer ≡ wrong reported → IsReportedIn cs reported
  wrong_reading (separates left) before outer leaves is = cc is
  wrong_reading (member left) before outer leaves is = cc is
  wrong_reading (opens inner left) before outer leaves is = cc is
  wrong_reading (closes closed) before outer leaves is = wrong_closing closed before outer leaves is
  wrong_reading (ends left) before outer leaves is = wrong_end before outer left leaves is
  wrong_reading unjudged before outer leaves is = cc is
  wrong_reading (reports t) before outer leaves is =
      let same : t ≡ reported = cc is in
      subst (IsReportedIn cs) same (reported_within cs rest t is_rest leaves)

pub wrong_in : (cs : List ℕ) (from : State) (reported : FaultAt) → IsWithin cs from → Finds from (wrong reported)
    → IsReportedIn cs reported
wrong_in cs from reported within walked =
    let state = walked.state in
    let at_state = kept_on next (IsWithin cs) (λ s over here one. (next_within cs s over here one).0) from state walked.leads within in
    wrong_reading cs state.level state.rest reported at_state.rest at_state.level (reading_at state.before state.rest)
    state.before state.outer (leaves_rest state.before state.rest) walked.finds
