use Rattle.std.proofs.Common.{None, Some}
use Rattle.std.specs.Duration.{as_nanos}
use Rattle.toml.specs.View.{table_view}
use Rattle.nextest_config_values.specs.Duration.{duration_reading}
use Rattle.nextest_config_values.specs.Read.{or_default}
use Rattle.nextest_config_elements.proofs.Judged.{delay_free, meant_or_none, same_meant}
use Rattle.nextest_config_elements.specs.RetryPolicy.{delay_key}
use Rattle.nextest_config_elements.proofs.retry_policy.rules.has_no_delay.Goals as goal

pub returns-in-Some : goal.returns-in-Some
returns-in-Some c =
    let reading = or_default delay_key 0 duration_reading in
    let table = table_view c.args.table.now in
    same_meant reading table (as_nanos c.in-Some.delay) 0 c.is_zero.result
    (meant_or_none reading table as_nanos c.or_default.result (Some c.in-Some.delay) c.in-Some.ensures.value (delay_free delay_key 0 table) c.or_default.ensures.meant c.or_default.ensures.refused)
    c.is_zero.ensures

pub returns-in-None : goal.returns-in-None
returns-in-None c =
    let reading = or_default delay_key 0 duration_reading in
    let table = table_view c.args.table.now in
    let none = meant_or_none reading table as_nanos c.or_default.result None c.in-None.ensures.value (delay_free delay_key 0 table) c.or_default.ensures.meant c.or_default.ensures.refused in
    ((λ yes. cc yes), (λ meant. absurd (none 0 meant)))
