use Rattle.std.proofs.Common.{◌≡◌, map, take}
use Rattle.toml_spans.specs.Step.{step_of}
use Rattle.nextest_config_lint.proofs.file.copy_of.Given as goal

abbrev pub invariant-loop-step : goal.invariant-loop-step
invariant-loop-step l = map step_of l.copy.items ≡ map step_of (take l.step-index l.path)
