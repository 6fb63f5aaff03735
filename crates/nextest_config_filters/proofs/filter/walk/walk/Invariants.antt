use Rattle.std.proofs.Common.{length}
use Rattle.std.specs.Str.{chars, IsUtf8}
use Rattle.nextest_config_filters.specs.Filter.Steps.{Shows}
use Rattle.nextest_config_filters.specs.Filter.Walk.{next, start, State}
use Rattle.nextest_config_filters.specs.Steps.{Leads}
use Rattle.nextest_config_filters.proofs.Filters.Steps.{IsWithin}
use Rattle.nextest_config_filters.proofs.filter.walk.walk.Given as goal

-- the text leads to the state that is shown
abbrev pub invariant-loop-step : goal.invariant-loop-step
invariant-loop-step l = record {
  text : IsUtf8 l.state.rest.now;
  last : IsUtf8 l.state.last.now;
  at : (now : State) × Leads (next l.place) (start (chars l.text)) now × Shows l.level l.state now × IsWithin (chars l.text) now;
}

abbrev pub decreases-loop-step : goal.decreases-loop-step
decreases-loop-step l = length (chars l.state.rest.now)
