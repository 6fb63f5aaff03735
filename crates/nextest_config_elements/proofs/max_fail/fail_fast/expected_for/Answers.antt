use Rattle.std.proofs.Common.{refl, inl, inr}
use Rattle.std.specs.Str.Parse.{signed_digits_value}
use Rattle.nextest_config_elements.proofs.Numbers.{not_positive, positive}
use Rattle.nextest_config_elements.specs.MaxFail.{number_from_parts}
use Rattle.nextest_config_elements.proofs.max_fail.fail_fast.expected_for.Goals as goal

pub returns-in-Ok : goal.returns-in-Ok
returns-in-Ok c =
    let parsed = c.in-Ok.ensures.value.0 in
    let value = signed_digits_value 10 c.args.text.now in
    inl (value, (number_from_parts c.args.text.now parsed.0.0, parsed.0.1), positive c.in-Ok.number value parsed.0.1 parsed.1 c.if-number-gt0.true, refl)

pub returns-in-Ok-2 : goal.returns-in-Ok-2
returns-in-Ok-2 c =
    let parsed = c.in-Ok.ensures.value.0 in
    let value = signed_digits_value 10 c.args.text.now in
    inr (inl (value, (number_from_parts c.args.text.now parsed.0.0, parsed.0.1), not_positive c.in-Ok.number value parsed.0.1 parsed.1 c.if-number-gt0.false, refl))
