-- The walk through a filter.
use Rattle.std.specs.Prelude.{◌≡◌, ℕ, List, [], ◌∷◌, Option, Some, None}
use Rattle.nextest_config_filters.specs.Filter.Reading.{closes, ends, FaultAt, goes_on, not_closed, not_open, opens, Reading, reports}
use Rattle.nextest_config_filters.specs.Filter.Regex.{judged_at, regex_at}
use Rattle.nextest_config_filters.specs.Steps.{IsWalked, Leads}
use Rattle.nextest_config_filters.specs.declared.filter.FilterPlace.{FilterPlace}
use Rattle.nextest_config_filters.specs.declared.filter.reading.Expects.{Expects}
use Rattle.nextest_config_filters.specs.declared.filter.reading.Expects.TheVariants.{Operand, Operator}

-- where the reading is: what is expected, what stands behind each open parenthesis, the last one
-- first, and what stands behind all that is read
pub record State : Type 0 where
  pub expects : Expects
  pub open_ones : List (List ℕ)
  pub rest : List ℕ

abbrev pub start : List ℕ → State
start cs = record { expects = Operand; open_ones = []; rest = cs }

-- ---- steps

-- how it goes on behind a reading
abbrev pub next_of : Reading → List (List ℕ) → Option State
next_of (goes_on expects rest) open_ones =
    Some (record { expects = expects; open_ones = open_ones; rest = rest })
next_of (opens rest) open_ones =
    Some (record { expects = Operand; open_ones = rest ∷ open_ones; rest = rest })
next_of (closes rest) (last ∷ open_ones) =
    Some (record { expects = Operator; open_ones = open_ones; rest = rest })
next_of reading open_ones = None

-- what is reported there
abbrev pub reported_of : Reading → List (List ℕ) → Option FaultAt
reported_of (reports reported) open_ones = Some reported
reported_of (closes rest) [] = Some (not_open rest)
reported_of ends (last ∷ open_ones) = Some (not_closed last)
reported_of reading open_ones = None

abbrev pub next : FilterPlace → State → Option State
next place state = next_of (judged_at place state.expects state.rest) state.open_ones

abbrev pub reported_in : FilterPlace → State → Option FaultAt
reported_in place state = reported_of (judged_at place state.expects state.rest) state.open_ones

-- behind the text, where no step leads on, this is reported, or nothing
abbrev pub Finds : FilterPlace → List ℕ → Option FaultAt → Type 0
Finds place cs found = IsWalked (next place) (reported_in place) (start cs) found

-- the text leads to no state in which a regular expression stands
abbrev pub HasNoRegex : FilterPlace → List ℕ → Type 0
HasNoRegex place cs =
    (state : State) → Leads (next place) (start cs) state → regex_at state.expects state.rest ≡ None
