use Rattle.std.proofs.Common.{◌≡◌, ℕ, List, Option, Some, None, map, option_map, refl}
use Rattle.std.specs.Prelude.{IfSome}
use Rattle.toml_spans.specs.Step.{printed_path, step_of}
use Rattle.nextest_config_values.specs.Read.{reason_at, reason_of}
use Rattle.nextest_config_values.specs.Read.Fault.{for_reason, Reason}
use Rattle.nextest_config_lint.proofs.faults.kind_at.Goals as goal

-- what is told already is told so at any path
reported_stays : (path : List ℕ) (reason : Option Reason) → IfSome (option_map for_reason reason) (λ reported. reason ≡ Some (reason_at path reported))
reported_stays path None = tt
reported_stays path (Some reason) = refl

pub returns-in-Kind : goal.returns-in-Kind
returns-in-Kind c = rw c.in-Kind.is (reported_stays (printed_path (map step_of c.args.path.now)) (reason_of c.in-Kind.kind))
