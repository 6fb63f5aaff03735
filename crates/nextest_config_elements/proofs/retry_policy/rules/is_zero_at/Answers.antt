use Rattle.std.specs.Duration.{as_nanos}
use Rattle.toml.specs.View.{table_view}
use Rattle.nextest_config_values.specs.Duration.{duration_reading}
use Rattle.nextest_config_values.specs.Read.{required}
use Rattle.nextest_config_elements.proofs.Judged.{same_meant}
use Rattle.nextest_config_elements.proofs.retry_policy.rules.is_zero_at.Goals as goal

pub returns-in-Some : goal.returns-in-Some
returns-in-Some c =
    same_meant (required c.args.key.now duration_reading) (table_view c.args.table.now) (as_nanos c.in-Some.duration) 0 c.is_zero.result c.in-Some.ensures c.is_zero.ensures
