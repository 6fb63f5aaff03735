use Rattle.std.proofs.Common.{inl, inr, refl}
use Rattle.toml.specs.View.{table_view}
use Rattle.nextest_config_values.proofs.Faults.{passed_on, refused_by, refused_by_one}
use Rattle.nextest_config_values.specs.Read.{broken_by, jitter_without_delay}
use Rattle.nextest_config_elements.specs.RetryPolicy.{fixed_table}
use Rattle.nextest_config_elements.proofs.retry_policy.read_fixed.Goals as goal

pub returns-in_err-check_keys-clause-refused : goal.returns-in_err-check_keys-clause-refused
returns-in_err-check_keys-clause-refused c =
    passed_on _ c.from_residual-in_err-check_keys.result _ c.from_residual-in_err-check_keys.ensures.1
    (refused_by_one fixed_table (table_view c.args.table.now) c.in_err-check_keys.field-0.0 c.in_err-check_keys.ensures.refused
    (λ f faulty. inr (_, c.in_ok-count.ensures.meant, inr (_, c.in_ok-delay.ensures.meant, inr (_, c.in_ok-jitter.ensures.meant, inl faulty)))))

pub returns-then-is_zero-clause-refused : goal.returns-then-is_zero-clause-refused
returns-then-is_zero-clause-refused c =
    let alone = inl ((c.if-jitter.true, c.is_zero.ensures.0 c.if-is_zero.true), refl) in
    refused_by fixed_table (table_view c.args.table.now) (broken_by jitter_without_delay) c.broken.result
    (inr (_, c.in_ok-count.ensures.meant, inr (_, c.in_ok-delay.ensures.meant, inr (_, c.in_ok-jitter.ensures.meant, inr (c.in_ok-check_keys.ensures.kept, alone)))))
    c.broken.ensures
