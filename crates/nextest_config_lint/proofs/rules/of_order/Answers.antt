use Rattle.std.proofs.Common.{◌≡◌, length, rules}
use Rattle.toml.specs.View.{view}
use Rattle.nextest_config_values.specs.Read.{cause_of, fault_of}
use Rattle.toml_spans.specs.Step.{step_of}
use Rattle.nextest_config_lint.proofs.VersionOrder.{elsewhere_in_order, here_is_order, memory_stays, none_left, refused_here, some_left, reported_elsewhere}
use Rattle.nextest_config_lint.proofs.rules.of_order.Goals as goal

pub returns-then-is_memory-clause-refused : goal.returns-then-is_memory-clause-refused
returns-then-is_memory-clause-refused c = memory_stays _ _ _ _ (fault_of c.args.fault) c.if-is_memory.ensures c.requires.refused.told

pub returns-then-is_empty-clause-refused : goal.returns-then-is_empty-clause-refused
returns-then-is_empty-clause-refused c =
    let none : length c.args.fault.steps.items ≡ 0 = search rules in
    refused_here _ _ _ _ _ (cause_of c.args.fault.cause) (none_left step_of c.args.fault.steps.items none) c.if-is_memory.ensures c.requires.refused.told
    (λ fault here wrong. here_is_order (view c.args.value.now) fault c.requires.of_table wrong here)

pub returns-clause-meant : goal.returns-clause-meant
returns-clause-meant c =
    reported_elsewhere _ _ _ _ _ (cause_of c.args.fault.cause) (some_left step_of c.args.fault.steps.items _ c.args.fault.steps.ok.0 c.if-is_empty.ensures) c.if-is_memory.ensures c.requires.refused.told
    (λ fault elsewhere wrong. elsewhere_in_order (view c.args.value.now) fault wrong elsewhere)
