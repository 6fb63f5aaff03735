use Rattle.std.proofs.Common.{◌≡◌, map, take}
use Rattle.std.specs.Fmt.{HasWritten, IsPlainFormatter}
use Rattle.toml_spans.specs.Step.{printed_path, step_of}
use Rattle.toml_spans.proofs.Steps.{is_some_step}
use Rattle.toml_spans.proofs.step.PathTextDisplay.fmt.Given as goal

-- the steps so far are written
abbrev pub invariant-loop-step : goal.invariant-loop-step
invariant-loop-step g l =
    (l.behind ≡ is_some_step (map step_of (take l.step-index l.self.0.now)))
    × (IsPlainFormatter l.fn.f → HasWritten g.W.Write.write_str_gives l.fn.f (printed_path (map step_of (take l.step-index l.self.0.now))) l.f)
