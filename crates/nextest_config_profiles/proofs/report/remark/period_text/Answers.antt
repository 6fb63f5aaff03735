use Rattle.std.proofs.Common.{rules}
use Rattle.nextest_config_profiles.proofs.VeryLong.{never_below, never_read}
use Rattle.nextest_config_profiles.proofs.report.remark.period_text.Goals as goal

pub returns-else-as_nanos : goal.returns-else-as_nanos
returns-else-as_nanos c = never_below c.args.text.now _ _ _ c.in-Ok.ensures.accepted (search rules) (search rules) c.if-as_nanos.false

pub returns-in-Err : goal.returns-in-Err
returns-in-Err c = never_read c.args.text.now c.in-Err.field-0 c.in-Err.ensures.refused
