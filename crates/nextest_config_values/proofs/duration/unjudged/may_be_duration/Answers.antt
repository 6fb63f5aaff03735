use Rattle.std.proofs.Common.{◌≡◌, ◌∙◌, rules}
use Rattle.nextest_config_values.specs.Duration.Unjudged.{without_fractions_and_gaps}
use Rattle.nextest_config_values.proofs.Unjudged.Judged.{judged}
use Rattle.nextest_config_values.proofs.duration.unjudged.may_be_duration.Goals as goal

pub returns : goal.returns
returns c =
    let read : c.as_str.result.now ≡ without_fractions_and_gaps c.args.text.now = c.as_str.ensures.value ∙ c.in_ok-whole.ensures in
    rw c.is_ok.ensures.value
    (judged c.args.text.now c.parse_duration.result (search rules) (rw read at c.parse_duration.ensures.accepted) (rw read at c.parse_duration.ensures.refused))
