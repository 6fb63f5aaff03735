use Rattle.std.proofs.Common.{sym}
use Rattle.nextest_config_values.proofs.Unjudged.Fractions.{fraction_step}
use Rattle.nextest_config_values.proofs.Unjudged.Runs.{first_and_rest}
use Rattle.nextest_config_values.proofs.duration.unjudged.without_fractions.Goals as goal

pub loop-rest-preserved-then-begins_with_digit : goal.loop-rest-preserved-then-begins_with_digit
loop-rest-preserved-then-begins_with_digit c =
    let parts = first_and_rest c.loop-rest.rest.now c.first-item.result c.in-len1-up.len_at_least c.first-item.is in
    fraction_step c.loop-rest.kept.items c.first-item.result (rw parts at c.loop-rest.invariant) c.if-after_digit.true c.if-first-eq46.true
    (sym c.if-begins_with_digit.ensures) c.split_digits.ensures.whole c.split_digits.ensures.is_run
