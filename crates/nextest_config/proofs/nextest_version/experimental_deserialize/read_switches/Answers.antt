use Rattle.nextest_config_values.proofs.Faults.{passed_on}
use Rattle.nextest_config.proofs.Naming.{all_switches, refuses_switches, switched_off, switched_on}
use Rattle.nextest_config.proofs.nextest_version.experimental_deserialize.read_switches.Goals as goal

pub returns-in_err-read_switch-clause-refused : goal.returns-in_err-read_switch-clause-refused
returns-in_err-read_switch-clause-refused c =
    passed_on _ c.from_residual.result _ c.from_residual.ensures.1
    (refuses_switches c.in_err-read_switch.field-0.0 c.loop-feature.invariant c.in-Some.ensures.steps c.in_err-read_switch.ensures.refused)

pub loop-feature-preserved-then-not-branch : goal.loop-feature-preserved-then-not-branch
loop-feature-preserved-then-not-branch c =
    switched_off c.loop-feature.invariant c.in-Some.ensures.steps (rw c.if-not-branch.true at c.in_ok-read_switch.ensures.meant)

pub loop-feature-preserved : goal.loop-feature-preserved
loop-feature-preserved c =
    let on = rw c.if-not-branch.false at c.in_ok-read_switch.ensures.meant in
    switched_on c.loop-feature.invariant c.in-Some.ensures.steps on c.in-Ok.ensures.added c.in-Ok.ensures.in_order

pub returns-clause-switches : goal.returns-clause-switches
returns-clause-switches c = all_switches c.loop-feature.invariant c.in-None.ensures.steps.0
