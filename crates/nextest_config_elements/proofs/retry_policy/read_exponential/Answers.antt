use Rattle.std.proofs.Common.{false, inl, inr}
use Rattle.toml.specs.View.{table_view}
use Rattle.nextest_config_values.proofs.Faults.{in_first, in_later, passed_on, refused_by, refused_by_one}
use Rattle.nextest_config_values.specs.Duration.{duration_reading}
use Rattle.nextest_config_values.specs.Read.{bool_reading, broken_by, broken_rule, or_default, required, u32_reading}
use Rattle.nextest_config_elements.specs.RetryPolicy.{count_key, delay_key, exponential_table, jitter_key}
use Rattle.nextest_config_elements.proofs.retry_policy.read_exponential.Goals as goal

pub returns-in_err-jitter-clause-refused : goal.returns-in_err-jitter-clause-refused
returns-in_err-jitter-clause-refused c =
    let table = table_view c.args.table.now in
    passed_on _ c.from_residual-in_err-jitter.result _ c.from_residual-in_err-jitter.ensures.1
    (in_later (required count_key u32_reading) table c.in_ok-count.ensures.meant (in_later (required delay_key duration_reading) table c.in_ok-delay.ensures.meant (in_first c.in_err-jitter.ensures.refused)))

pub returns-in_err-max_delay-clause-refused : goal.returns-in_err-max_delay-clause-refused
returns-in_err-max_delay-clause-refused c =
    let table = table_view c.args.table.now in
    passed_on _ c.from_residual-in_err-max_delay.result _ c.from_residual-in_err-max_delay.ensures.1
    (in_later (required count_key u32_reading) table c.in_ok-count.ensures.meant (in_later (required delay_key duration_reading) table c.in_ok-delay.ensures.meant
    (in_later (or_default jitter_key false bool_reading) table c.in_ok-jitter.ensures.meant (in_first c.in_err-max_delay.ensures.refused))))

pub returns-in_err-check_keys-clause-refused : goal.returns-in_err-check_keys-clause-refused
returns-in_err-check_keys-clause-refused c =
    passed_on _ c.from_residual-in_err-check_keys.result _ c.from_residual-in_err-check_keys.ensures.1
    (refused_by_one exponential_table (table_view c.args.table.now) c.in_err-check_keys.field-0.0 c.in_err-check_keys.ensures.refused
    (λ f faulty. inr (_, c.in_ok-count.ensures.meant, inr (_, c.in_ok-delay.ensures.meant, inr (_, c.in_ok-jitter.ensures.meant, inr (_, c.in_ok-max_delay.ensures.meant, inl faulty))))))

pub returns-in-Some-clause-refused : goal.returns-in-Some-clause-refused
returns-in-Some-clause-refused c =
    let broken = inl c.in-Some.ensures in
    refused_by exponential_table (table_view c.args.table.now) (broken_by (broken_rule c.in-Some.rule)) c.broken.result
    (inr (_, c.in_ok-count.ensures.meant, inr (_, c.in_ok-delay.ensures.meant, inr (_, c.in_ok-jitter.ensures.meant, inr (_, c.in_ok-max_delay.ensures.meant, inr (c.in_ok-check_keys.ensures.kept, broken))))))
    c.broken.ensures
