use Rattle.std.proofs.Common.{subst}
use Rattle.std.specs.Duration.{as_nanos}
use Rattle.toml.specs.View.{table_view}
use Rattle.nextest_config_values.proofs.Faults.{in_first, in_later, in_made, passed_on}
use Rattle.nextest_config_values.specs.Duration.{duration_reading}
use Rattle.nextest_config_values.specs.Read.{count_reading, optional, or_default, required}
use Rattle.nextest_config_elements.specs.SlowTimeout.{default_grace_period, grace_period_key, period_key, terminate_after_key}
use Rattle.nextest_config_elements.proofs.slow_timeout.SlowTimeoutFromTable.read_table.Goals as goal

pub returns-in_err-terminate_after-clause-refused : goal.returns-in_err-terminate_after-clause-refused
returns-in_err-terminate_after-clause-refused c =
    passed_on _ c.from_residual-in_err-terminate_after.result _ c.from_residual-in_err-terminate_after.ensures.1
    (in_later (required period_key duration_reading) (table_view c.args.table.now) c.in_ok-period.ensures.meant (in_first c.in_err-terminate_after.ensures.refused))

pub returns-in_err-grace_period-clause-refused : goal.returns-in_err-grace_period-clause-refused
returns-in_err-grace_period-clause-refused c =
    let table = table_view c.args.table.now in
    passed_on _ c.from_residual-in_err-grace_period.result _ c.from_residual-in_err-grace_period.ensures.1
    (in_later (required period_key duration_reading) table c.in_ok-period.ensures.meant (in_later (optional terminate_after_key count_reading) table c.in_ok-terminate_after.ensures.meant
    (in_first (simp c.default_grace_period.ensures at c.in_err-grace_period.ensures.refused))))

pub returns-in_err-on_timeout-clause-refused : goal.returns-in_err-on_timeout-clause-refused
returns-in_err-on_timeout-clause-refused c =
    let table = table_view c.args.table.now in
    let grace_period = subst (λ grace. (or_default grace_period_key grace duration_reading).means table (as_nanos c.in_ok-grace_period.grace_period)) c.default_grace_period.ensures c.in_ok-grace_period.ensures.meant in
    passed_on _ c.from_residual-in_err-on_timeout.result _ c.from_residual-in_err-on_timeout.ensures.1
    (in_later (required period_key duration_reading) table c.in_ok-period.ensures.meant (in_later (optional terminate_after_key count_reading) table c.in_ok-terminate_after.ensures.meant
    (in_later (or_default grace_period_key default_grace_period duration_reading) table grace_period (in_made (simp c.default.ensures at c.in_err-on_timeout.ensures.refused)))))
