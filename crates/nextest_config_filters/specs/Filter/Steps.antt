-- The walk through a filter as the code has it, with a number in place of open parentheses.
use Rattle.std.specs.Prelude.{◌≡◌, ℕ, suc, ◌==◌, ◌<◌, List, [], ◌∷◌, chars, length, Option, Some, None, option_map, if◌then◌else◌}
use Rattle.nextest_config_filters.specs.Filter.Reading.{ends, fault_view, Reading}
use Rattle.nextest_config_filters.specs.Filter.Regex.{judged_at}
use Rattle.nextest_config_filters.specs.Filter.Walk.{Finds, next, next_of, reported_of, start, State}
use Rattle.nextest_config_filters.specs.Steps.{Leads}
use Rattle.nextest_config_filters.specs.declared.filter.FilterPlace.{FilterPlace}
use Rattle.nextest_config_filters.specs.declared.filter.reading.Expects.TheVariants.{Operand}
use Rattle.nextest_config_filters.specs.declared.filter.walk.End.{End}
use Rattle.nextest_config_filters.specs.declared.filter.walk.End.TheVariants as ways_out
use Rattle.nextest_config_filters.specs.declared.filter.walk.State.{State as OwnState}
use Rattle.nextest_config_filters.specs.declared.filter.walk.Step.{Step}
use Rattle.nextest_config_filters.specs.declared.filter.walk.Step.TheVariants as steps

-- of the parentheses that are open, the one that opened as the one of a level, from 1
abbrev pub at_level : ℕ → List (List ℕ) → Option (List ℕ)
at_level level [] = None
at_level level (last ∷ others) =
    if level == suc (length others) then Some last else at_level level others

-- what the code keeps of a state: how many parentheses are open, and what is behind that of a level
pub record Shows (level : ℕ) (own : OwnState) (state : State) : Type 0 where
  pub expects : own.expects ≡ state.expects
  pub rest : chars own.rest.now ≡ state.rest
  pub deep : own.depth ≡ length state.open_ones
  pub of_level : (opened : List ℕ) → at_level level state.open_ones ≡ Some opened
      → chars own.last.now ≡ opened

-- the state behind a parenthesis that opens
abbrev pub state_opened : State → List ℕ → State
state_opened state rest =
    record { expects = Operand; open_ones = rest ∷ state.open_ones; rest = rest }

-- a step goes as a reading says
abbrev pub IsStepBy : ℕ → Reading → State → Step → Type 0
IsStepBy level reading state (steps.To own) =
    (over : State) × (next_of reading state.open_ones ≡ Some over) × Shows level own over
IsStepBy level reading state (steps.Over reported) =
    (next_of reading state.open_ones ≡ None)
    × (reported_of reading state.open_ones ≡ option_map fault_view reported)
IsStepBy level reading state steps.Open = (reading ≡ ends) × (0 < length state.open_ones)

-- the text leads to its end, where so many parentheses are open
pub record IsLeftOpen (place : FilterPlace) (cs : List ℕ) (many : ℕ) : Type 0 where
  pub state : State
  pub leads : Leads (next place) (start cs) state
  pub at_end : judged_at place state.expects state.rest ≡ ends
  pub open_many : many ≡ length state.open_ones
  pub some : 0 < many

-- how a walk ends
abbrev pub IsWalk : FilterPlace → ℕ → List ℕ → End → Type 0
IsWalk place level cs (ways_out.Over reported) = Finds place cs (option_map fault_view reported)
IsWalk place level cs (ways_out.Open many last) =
    (left : IsLeftOpen place cs many)
    × ((opened : List ℕ) → at_level level left.state.open_ones ≡ Some opened
    → chars last.now ≡ opened)
