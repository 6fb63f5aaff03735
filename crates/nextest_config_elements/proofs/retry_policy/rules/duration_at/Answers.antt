use Rattle.std.specs.Duration.{as_nanos}
use Rattle.toml.specs.View.{table_view}
use Rattle.nextest_config_values.specs.Duration.{duration_reading}
use Rattle.nextest_config_values.specs.Read.{required}
use Rattle.nextest_config_elements.proofs.Judged.{duration_at_free, meant_or_none}
use Rattle.nextest_config_elements.proofs.retry_policy.rules.duration_at.Goals as goal

pub returns : goal.returns
returns c =
    let table = table_view c.args.table.now in
    meant_or_none (required c.args.key.now duration_reading) table as_nanos c.required.result c.ok.result c.ok.ensures.value (duration_at_free c.args.key.now table) c.required.ensures.meant c.required.ensures.refused
