use Rattle.std.specs.Char.{is_ascii_digit}
use Rattle.nextest_config_values.proofs.Unjudged.Runs.{cut_found}
use Rattle.nextest_config_values.proofs.duration.unjudged.split_digits.Goals as goal

pub returns-clause-is_run : goal.returns-clause-is_run
returns-clause-is_run c =
    rw (c.split_at.ensures.front, c.split_at.ensures.back)
    (cut_found is_ascii_digit c.args.text.now c.unwrap_or.result (rw c.first_after_digits.ensures at c.unwrap_or.ensures))
