use Rattle.std.proofs.Common.{false}
use Rattle.toml.specs.View.{table_view}
use Rattle.nextest_config_values.specs.Read.{bool_reading, or_default}
use Rattle.nextest_config_elements.proofs.Judged.{jitter_free, meant_or_none, truth_or_false}
use Rattle.nextest_config_elements.specs.RetryPolicy.{jitter_key}
use Rattle.nextest_config_elements.proofs.retry_policy.rules.has_jitter.Goals as goal

pub returns : goal.returns
returns c =
    let reading = or_default jitter_key false bool_reading in
    let table = table_view c.args.table.now in
    rw c.unwrap_or.ensures
    (truth_or_false reading table c.ok.result
    (meant_or_none reading table (λ truth. truth) c.or_default.result c.ok.result c.ok.ensures.value (jitter_free jitter_key false table) c.or_default.ensures.meant c.or_default.ensures.refused))
