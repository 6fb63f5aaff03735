use Rattle.std.proofs.Common.{◌∙◌, ap, sym}
use Rattle.std.specs.Char.{is_whitespace}
use Rattle.nextest_config_values.specs.Duration.{IsRun}
use Rattle.nextest_config_values.specs.Duration.Unjudged.{space_then_digit}
use Rattle.nextest_config_values.proofs.Unjudged.Gaps.{past_space}
use Rattle.nextest_config_values.proofs.Unjudged.Runs.{cut_found}
use Rattle.nextest_config_values.proofs.duration.unjudged.space_then_digit.Goals as goal

pub returns : goal.returns
returns c =
    let run : IsRun is_whitespace c.split_at.result.0.now c.split_at.result.1.now = rw (c.split_at.ensures.front, c.split_at.ensures.back)
    (cut_found is_whitespace c.args.text.now c.unwrap_or.result (rw c.first_after_space.ensures at c.unwrap_or.ensures)) in
    c.begins_with_digit.ensures ∙ sym (past_space _ _ run) ∙ ap space_then_digit (sym c.split_at.ensures.by_index.0)
