use Rattle.std.proofs.Common.{◌∙◌, sym}
use Rattle.nextest_config_values.proofs.Unjudged.Gaps.{left_out, stays}
use Rattle.nextest_config_values.proofs.Unjudged.Runs.{first_and_rest}
use Rattle.nextest_config_values.proofs.duration.unjudged.without_gaps.Goals as goal

pub loop-rest-preserved-in_ok-push : goal.loop-rest-preserved-in_ok-push
loop-rest-preserved-in_ok-push c =
    let parts = first_and_rest c.loop-rest.rest.now c.first-item.result c.in-len1-up.len_at_least c.first-item.is in
    rw (c.in_ok-push.ensures.items, c.is_ascii_digit-after_digit.ensures.value, c.if-not-in_gap.true)
    (stays c.first-item.result _ (rw parts at c.loop-rest.invariant) (sym c.is_in_gap-in_gap.ensures ∙ c.if-not-in_gap.true))

pub loop-rest-preserved : goal.loop-rest-preserved
loop-rest-preserved c =
    let parts = first_and_rest c.loop-rest.rest.now c.first-item.result c.in-len1-up.len_at_least c.first-item.is in
    rw c.if-not-in_gap.false (left_out c.first-item.result _ (rw parts at c.loop-rest.invariant) (sym c.is_in_gap-in_gap.ensures ∙ c.if-not-in_gap.false))
