use Rattle.std.proofs.Common.{sym, refl, lit<, to_z-of_z}
use Rattle.nextest_config_elements.proofs.Numbers.{too_large, too_small}
use Rattle.nextest_config_elements.specs.MaxFail.{number_from_parts}
use Rattle.nextest_config_elements.proofs.max_fail.parse_number.Goals as goal

pub returns-in-Ok-clause-accepted : goal.returns-in-Ok-clause-accepted
returns-in-Ok-clause-accepted c =
    let parsed = c.in-Ok.ensures.value.0 in
    rw (to_z-of_z (rw (sym parsed.1) at parsed.0.1), parsed.1) (number_from_parts c.args.text.now parsed.0.0)

pub returns-in-Err-clause-refused : goal.returns-in-Err-clause-refused
returns-in-Err-clause-refused c =
    let digits = c.if-not-is_number.ensures.0 refl in
    too_small c.args.text.now digits (λ fits. c.in-Err.ensures.value.0 (digits, fits)) (sym (c.if-starts_with.ensures.byte (lit< tt) (lit< tt) (λ w o h. h)))

pub returns-in-Err-2-clause-refused : goal.returns-in-Err-2-clause-refused
returns-in-Err-2-clause-refused c =
    let digits = c.if-not-is_number.ensures.0 refl in
    too_large c.args.text.now digits (λ fits. c.in-Err.ensures.value.0 (digits, fits)) (sym (c.if-starts_with.ensures.byte (lit< tt) (lit< tt) (λ w o h. h)))
