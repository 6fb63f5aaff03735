use Rattle.std.proofs.Common.{◌≡◌, ◌++◌, drop, map, string_bytes}
use Rattle.nextest_config_lint.specs.Explain.KnownKey.{table_step}
use Rattle.nextest_config_lint.specs.Explain.Places.{path_text, steps_text}
use Rattle.nextest_config_lint.proofs.explain.places.path_text.Given as goal

-- those so far, and those that are left, are all
abbrev pub invariant-loop-step : goal.invariant-loop-step
invariant-loop-step l =
    string_bytes l.text ++ steps_text l.behind (map table_step (drop l.step-index l.path)) ≡ path_text (map table_step l.path)
