use Rattle.std.proofs.Common.{◌≡◌, drop, map, string_bytes}
use Rattle.nextest_config_values.specs.Read.{path_along, step_of}
use Rattle.nextest_config_values.proofs.read.value_fault.path_along.Given as goal

-- the rest of the steps leads on from the path so far
abbrev pub invariant-loop-step : goal.invariant-loop-step
invariant-loop-step l =
    path_along l.at (map step_of l.steps) ≡ path_along (string_bytes l.path) (map step_of (drop l.step-index l.steps))
