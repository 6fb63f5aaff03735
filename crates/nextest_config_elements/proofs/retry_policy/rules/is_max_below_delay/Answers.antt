use Rattle.std.specs.Duration.{as_nanos}
use Rattle.toml.specs.View.{table_view}
use Rattle.nextest_config_values.specs.Duration.{duration_reading}
use Rattle.nextest_config_values.specs.Read.{required}
use Rattle.nextest_config_elements.proofs.Judged.{below_meant}
use Rattle.nextest_config_elements.specs.RetryPolicy.{delay_key, max_delay_key}
use Rattle.nextest_config_elements.proofs.retry_policy.rules.is_max_below_delay.Goals as goal

pub returns-in-Some-duration_at : goal.returns-in-Some-duration_at
returns-in-Some-duration_at c =
    rw (c.as_nanos.ensures, c.as_nanos-in-Some-duration_at.ensures)
    (below_meant (required max_delay_key duration_reading) (required delay_key duration_reading) (table_view c.args.table.now) (as_nanos c.in-Some.max) (as_nanos c.in-Some-duration_at.delay) c.in-Some.ensures c.in-Some-duration_at.ensures)
