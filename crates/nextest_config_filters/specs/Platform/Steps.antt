-- The walk through `cfg(..)`, as the code has it.
use Rattle.std.specs.Prelude.{◌≡◌, ℕ, ◌<◌, List, [], ◌∷◌, ◌++◌, chars, length, Option, Some, None}
use Rattle.nextest_config_filters.specs.Platform.Reading.{fault_view, Reading}
use Rattle.nextest_config_filters.specs.Platform.Walk.{next_of, not_judged, Outcome, outcome_of, passes, State, wrong}
use Rattle.nextest_config_filters.specs.declared.platform.outcome.Outcome.{Outcome as OwnOutcome}
use Rattle.nextest_config_filters.specs.declared.platform.outcome.Outcome.TheVariants as outcomes
use Rattle.nextest_config_filters.specs.declared.platform.reading.Level.{Level}
use Rattle.nextest_config_filters.specs.declared.platform.walk.State.{State as OwnState}
use Rattle.nextest_config_filters.specs.declared.platform.walk.Step.{Step}
use Rattle.nextest_config_filters.specs.declared.platform.walk.Step.TheVariants as steps

-- what is found, without where it lies in memory
abbrev pub outcome_view : OwnOutcome → Outcome
outcome_view outcomes.Passes = passes
outcome_view outcomes.Unjudged = not_judged
outcome_view (outcomes.Wrong reported) = wrong (fault_view reported)

-- levels, of which the innermost is the last
abbrev pub outermost_first : List Level → List Level
outermost_first [] = []
outermost_first (level ∷ outer) = outermost_first outer ++ (level ∷ [])

-- what the code keeps of a state, with the levels around
pub record Shows (around : List Level) (own : OwnState) (state : State) : Type 0 where
  pub before : own.after ≡ state.before
  pub level : own.level ≡ state.level
  pub outer : around ≡ outermost_first state.outer
  pub rest : chars own.rest.now ≡ state.rest

-- a step leads on to a state, or there is none, and this is found
abbrev pub IsStep : Option State → Outcome → List Level → Step → Type 0
IsStep next outcome around (steps.To own) =
    (over : State) × (next ≡ Some over) × Shows around own over
IsStep next outcome around (steps.Over own) = (next ≡ None) × (outcome ≡ outcome_view own)

-- a step goes as a reading says
abbrev pub IsStepBy : Reading → State → List Level → Step → Type 0
IsStepBy reading state around step =
    IsStep (next_of reading state.level state.outer)
    (outcome_of reading state.before state.level state.outer) around step

-- a reading leads on to where more levels are around than this
abbrev pub LeadsBeyond : Reading → State → ℕ → Type 0
LeadsBeyond reading state most =
    (over : State) × (next_of reading state.level state.outer ≡ Some over)
    × (most < length over.outer)
