use Rattle.std.proofs.Common.{◌≡◌, ◌++◌, map}
use Rattle.toml_parser.specs.Reading.{path_view}
use Rattle.toml_spans.specs.Step.{key, step_of}
use Rattle.nextest_config_lint.proofs.mistake.add_steps.Given as goal

-- the steps of the names so far came behind those that were there
abbrev pub invariant-loop-name : goal.invariant-loop-name
invariant-loop-name l = map step_of l.path.items ≡ map step_of l.fn.path.items ++ map key (path_view l.yielded)
