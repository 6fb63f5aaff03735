use Rattle.std.proofs.Common.{Err, rules, ap}
use Rattle.nextest_config_check.proofs.Versions.{no_complaint, of_text-version_parts}
use Rattle.nextest_config_check.proofs.command_line.parse_check.Goals as goal

pub returns-in-Err : goal.returns-in-Err
returns-in-Err c =
    no_complaint c.args.word.now c.args.override_version_check c.args.edition _ (Err c.in-Err.error) (of_text-version_parts c.args.word.now) c.in-Err.ensures.refused (ap Err (search rules))
