use Rattle.std.proofs.Common.{◌≡◌, [], chars, rules, arith}
use Rattle.nextest_config_values.proofs.Faults.{passed_on}
use Rattle.nextest_config_values.proofs.Durations.{begun, chars_nil, chars_some, empty_fault, fault_within, place_left, read_more, sum_fault, trimmed, whole_duration}
use Rattle.nextest_config_values.specs.Duration.{IsDurationFault}
use Rattle.nextest_config_values.proofs.duration.parse_duration.Goals as goal

pub returns-then-is_empty-clause-refused : goal.returns-then-is_empty-clause-refused
returns-then-is_empty-clause-refused c =
    empty_fault c.args.s.now (trimmed _ _ c.trim_start-rest.utf8 c.trim_start-rest.ensures.trim).1
    (chars_nil c.trim_start-rest.result.now (search rules))

pub loop-rest-init : goal.loop-rest-init
loop-rest-init c =
    let trim = trimmed _ _ c.trim_start-rest.utf8 c.trim_start-rest.ensures.trim in
    (c.trim_start-rest.utf8, search rules, begun trim.1 (chars_some c.trim_start-rest.result.now c.trim_start-rest.utf8 (search rules)))

pub returns-in_err-item-clause-refused : goal.returns-in_err-item-clause-refused
returns-in_err-item-clause-refused c =
    passed_on (IsDurationFault c.args.s.now) c.from_residual.result c.in_err-item.field-0.0 c.from_residual.ensures.1
    (fault_within c.args.s.now _ c.in_err-item.field-0.0 c.loop-rest.invariant.2
    (chars_some c.loop-rest.rest.now c.loop-rest.invariant.0 (search rules))
    (place_left c.args.s.now c.loop-rest.rest.now c.loop-rest.nanoseconds c.loop-rest.invariant.2 c.utf8.s c.loop-rest.invariant.0) c.in_err-item.ensures.refused)

pub loop-rest-preserved : goal.loop-rest-preserved
loop-rest-preserved c =
    let trim = trimmed _ _ c.trim_start-rest-in-loop-rest.utf8 c.trim_start-rest-in-loop-rest.ensures.trim in
    (c.trim_start-rest-in-loop-rest.utf8, search rules, rw c.saturating_add-nanoseconds.ensures (read_more _ (chars c.loop-rest.rest.now) (chars c.in_ok-item.after.now) _ trim.0 c.loop-rest.nanoseconds c.in_ok-item.item c.loop-rest.invariant.2 c.in_ok-item.ensures.read trim.1))

pub returns-then-nanoseconds-as_nanos-clause-refused : goal.returns-then-nanoseconds-as_nanos-clause-refused
returns-then-nanoseconds-as_nanos-clause-refused c =
    let none : chars c.loop-rest.rest.now ≡ [] = chars_nil c.loop-rest.rest.now (search rules) in
    sum_fault c.args.s.now c.loop-rest.nanoseconds (rw none at c.loop-rest.invariant.2) (λ fits. omega (arith, fits, c.as_nanos.ensures, c.if-nanoseconds-as_nanos.true))

pub returns-clause-accepted : goal.returns-clause-accepted
returns-clause-accepted c =
    let none : chars c.loop-rest.rest.now ≡ [] = chars_nil c.loop-rest.rest.now (search rules) in
    rw c.from_nanos_u128.ensures (whole_duration c.args.s.now c.loop-rest.nanoseconds (rw none at c.loop-rest.invariant.2) (omega (arith, c.as_nanos.ensures, c.if-nanoseconds-as_nanos.false)))
