use Rattle.std.proofs.Common.{◌≤◌, length}
use Rattle.std.specs.Str.{chars, IsUtf8}
use Rattle.nextest_config_filters.specs.Platform.Steps.{Shows}
use Rattle.nextest_config_filters.specs.Platform.Walk.{next, start, State}
use Rattle.nextest_config_filters.specs.Steps.{Leads}
use Rattle.nextest_config_filters.proofs.Platforms.Steps.{IsWithin}
use Rattle.nextest_config_filters.proofs.platform.walk.walk.Given as goal

-- the text leads to the state that is shown, and eight levels around have room
abbrev pub invariant-loop-outer : goal.invariant-loop-outer
invariant-loop-outer l = record {
  text : IsUtf8 l.state.rest.now;
  room : 8 ≤ l.outer.capacity;
  at : (now : State) × Leads next (start (chars l.text) (chars l.opened)) now × Shows l.outer.items l.state now
      × IsWithin (chars l.text) now;
}

abbrev pub decreases-loop-outer : goal.decreases-loop-outer
decreases-loop-outer l = length (chars l.state.rest.now)
