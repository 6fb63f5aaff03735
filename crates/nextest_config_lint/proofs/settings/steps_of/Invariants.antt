use Rattle.std.proofs.Common.{◌≡◌, map, take}
use Rattle.toml_spans.specs.Step.{step_of}
use Rattle.nextest_config_lint.specs.Settings.{mark_step}
use Rattle.nextest_config_lint.proofs.settings.steps_of.Given as goal

abbrev pub invariant-loop-mark : goal.invariant-loop-mark
invariant-loop-mark l = map step_of l.steps.items ≡ map mark_step (take l.mark-index l.path)
