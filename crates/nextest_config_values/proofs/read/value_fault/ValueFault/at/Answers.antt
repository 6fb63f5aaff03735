use Rattle.std.proofs.Common.{◌≡◌, ℕ, List, Option, map, option_map, string_bytes, rules}
use Rattle.std.specs.Prelude.{IfSome}
use Rattle.nextest_config_values.specs.Read.{Cause, cause_of, fault_with, FaultOrMemory, path_along, PathStep, Reason, reason_at, reason_of, step_of, TellsAs, TellsMemory, read_fault_at, read_fault_with}
use Rattle.nextest_config_values.specs.declared.read.fault.FaultKind.{FaultKind}
use Rattle.nextest_config_values.specs.declared.read.fault.FaultKind.TheVariants.{Memory}
use Rattle.nextest_config_values.specs.declared.read.fault.ReadFault.{ReadFault}
use Rattle.nextest_config_values.proofs.read.value_fault.ValueFault.at.Goals as goal

-- what is told of a reason at a path is told of the cause that says it there
of_reason : (path : List ℕ) (cause : Cause) (reason : Option Reason) (kind : Type 0) (told : ReadFault)
    → FaultOrMemory reason kind (λ one. one ≡ reason_at path cause) → FaultOrMemory reason (TellsMemory told) (λ one. TellsAs (read_fault_with path one) told)
    → TellsAs (read_fault_with path (reason_at path cause)) told
of_reason path cause reason kind told is tells = search rules

-- what is told of a cause is told of the fault with these steps
of_steps : (at path : List ℕ) (steps : List PathStep) (cause : Option Cause) (kind : FaultKind) (told : ReadFault) → path ≡ path_along at steps
    → IfSome cause (λ k. FaultOrMemory (reason_of kind) (kind ≡ Memory) (λ reason. reason ≡ reason_at path k))
    → FaultOrMemory (reason_of kind) (TellsMemory told) (λ reason. TellsAs (read_fault_with path reason) told)
    → IfSome (option_map (fault_with steps) cause) (λ fault. TellsAs (read_fault_at at fault) told)
of_steps at path steps cause kind told is said tells = search rules

pub returns-in-Ok-clause-told : goal.returns-in-Ok-clause-told
returns-in-Ok-clause-told c =
    of_steps c.args.at.now (string_bytes c.in-Ok.path) (map step_of c.args.self.steps.items) (cause_of c.args.self.cause) c.kind_at-kind.result c.fault_with.result
    (rw c.as_slice.ensures.value at c.in-Ok.ensures) (rw c.as_str.ensures.value at c.kind_at-kind.ensures.kind) c.fault_with.ensures
