-- The walk through `cfg(..)`.
use Rattle.std.specs.Prelude.{ℕ, ◌+◌, ◌==◌, ◌&&◌, nat_lt, not, Bool, false, List, [], ◌∷◌, Option, Some, None, if◌then◌else◌}
use Rattle.nextest_config_filters.specs.Front.{bytes_of, opening, without_first}
use Rattle.nextest_config_filters.specs.Platform.Member.{reading_at}
use Rattle.nextest_config_filters.specs.Platform.Reading.{closes, ends, fault_of_level, FaultAt, member, not_closed, not_open, opens, Reading, reports, separates, unjudged}
use Rattle.nextest_config_filters.specs.Steps.{IsWalked}
use Rattle.nextest_config_filters.specs.declared.platform.flaw.PlatformFlaw.TheVariants as flaws
use Rattle.nextest_config_filters.specs.declared.platform.reading.After.{After}
use Rattle.nextest_config_filters.specs.declared.platform.reading.After.TheVariants as after
use Rattle.nextest_config_filters.specs.declared.platform.reading.Level.{Level}

-- where the reading is: what stands before it, the group that it is in, those around that, the
-- innermost first, of which the last is `cfg(..)` itself, and what stands behind all that is read
pub record State : Type 0 where
  pub before : After
  pub level : Level
  pub outer : List Level
  pub rest : List ℕ

-- `cfg(..)` itself at the front of a text, by what stands behind its parenthesis
abbrev pub first_level : List ℕ → List ℕ → Level
first_level cs opened = record {
  is_not = false;
  from = bytes_of cs;
  opening = bytes_of (opening ∷ opened);
  opened = bytes_of opened;
  members = 0;
}

abbrev pub start : List ℕ → List ℕ → State
start cs opened = record {
  before = after.Nothing;
  level = first_level cs opened;
  outer = [];
  rest = opened;
}

-- ---- members

abbrev pub with_member : Level → Level
with_member level = record level { members = level.members + 1 }

-- of `cfg(..)` itself keys alone count as members
abbrev pub with_group : Level → List Level → Level
with_group level [] = level
with_group level (around ∷ outer) = with_member level

-- a `not` has other than one
abbrev pub is_miscounted : Level → Bool
is_miscounted level = level.is_not && not (level.members == 1)

-- ---- steps

-- how it goes on behind a parenthesis that closes
abbrev pub next_closed : Level → List Level → List ℕ → Option State
next_closed level [] rest = None
next_closed level (around ∷ outer) rest =
    if is_miscounted level then None
    else Some (record { before = after.Member; level = around; outer = outer; rest = rest })

-- how it goes on behind a reading
abbrev pub next_of : Reading → Level → List Level → Option State
next_of (separates rest) level outer =
    Some (record { before = after.Comma; level = level; outer = outer; rest = rest })
next_of (member rest) level outer =
    Some (record { before = after.Member; level = with_member level; outer = outer; rest = rest })
next_of (opens inner rest) level outer =
    Some (record {
      before = after.Opening;
      level = inner;
      outer = with_group level outer ∷ outer;
      rest = rest;
    })
next_of (closes cs) level outer = next_closed level outer (without_first cs)
next_of reading level outer = None

-- how a reading may end: the text passes, isn't judged, or this is reported
pub data Outcome : Type 0 where
  passes : Outcome
  not_judged : Outcome
  wrong : (reported : FaultAt) → Outcome

-- what is found at a parenthesis that closes
abbrev pub outcome_closed : Level → List Level → List ℕ → Outcome
outcome_closed level [] cs = wrong (not_open cs)
outcome_closed level (around ∷ outer) cs =
    if is_miscounted level
    then wrong (fault_of_level level (without_first cs) (flaws.NotMembers level.members))
    else passes

-- what is found at the end
abbrev pub outcome_whole : After → Level → List ℕ → Outcome
outcome_whole after.Nothing level rest = wrong (fault_of_level level rest flaws.NoMember)
outcome_whole before level rest =
    if nat_lt 1 level.members then wrong (fault_of_level level rest flaws.ManyMembers) else passes

abbrev pub outcome_end : After → Level → List Level → List ℕ → Outcome
outcome_end before level [] rest = outcome_whole before level rest
outcome_end before level (around ∷ outer) rest = wrong (not_closed level)

-- what is found where it doesn't go on
abbrev pub outcome_of : Reading → After → Level → List Level → Outcome
outcome_of (closes cs) before level outer = outcome_closed level outer cs
outcome_of (ends rest) before level outer = outcome_end before level outer rest
outcome_of (reports reported) before level outer = wrong reported
outcome_of unjudged before level outer = not_judged
outcome_of reading before level outer = passes

abbrev pub next : State → Option State
next state = next_of (reading_at state.before state.rest) state.level state.outer

abbrev pub outcome_at : State → Outcome
outcome_at state =
    outcome_of (reading_at state.before state.rest) state.before state.level state.outer

-- where no step leads on from this state, this is found
abbrev pub Finds : State → Outcome → Type 0
Finds = IsWalked next outcome_at
