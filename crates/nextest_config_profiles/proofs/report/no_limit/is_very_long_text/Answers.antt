use Rattle.std.proofs.Common.{rules}
use Rattle.nextest_config_profiles.proofs.VeryLong.{is_long, is_no_long}
use Rattle.nextest_config_profiles.proofs.report.no_limit.is_very_long_text.Goals as goal

pub returns-in-Ok : goal.returns-in-Ok
returns-in-Ok c = is_long c.args.text.now _ _ _ c.in-Ok.ensures.accepted (search rules) (search rules)

pub returns-in-Err : goal.returns-in-Err
returns-in-Err c = is_no_long c.args.text.now c.in-Err.field-0 c.in-Err.ensures.refused
