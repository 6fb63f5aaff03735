use Rattle.std.proofs.lemmas.Result.{IfErr-weaker}
use Rattle.toml.specs.View.{table_view}
use Rattle.nextest_config_values.proofs.Faults.{in_later}
use Rattle.nextest_config_values.specs.Read.{required, word_reading}
use Rattle.nextest_config_elements.specs.RetryPolicy.{backoff_key, backoff_reads_back, backoff_word, backoffs_in_order}
use Rattle.nextest_config_elements.proofs.retry_policy.RetryPolicyFromTable.read_table.Goals as goal

pub returns-clause-refused : goal.returns-clause-refused
returns-clause-refused c =
    let reading = required backoff_key (word_reading backoffs_in_order backoff_word backoff_reads_back) in
    IfErr-weaker c.read_table.result _ _ (λ fault. in_later reading (table_view c.args.table.now) c.in_ok-backoff.ensures.meant) c.read_table.ensures.refused
