use Rattle.toml.specs.View.{table_view}
use Rattle.nextest_config_values.proofs.Faults.{in_later, in_made, passed_on}
use Rattle.nextest_config_values.specs.Duration.{duration_reading}
use Rattle.nextest_config_values.specs.Read.{required}
use Rattle.nextest_config_elements.specs.LeakTimeout.{period_key}
use Rattle.nextest_config_elements.proofs.leak_timeout.LeakTimeoutFromTable.read_table.Goals as goal

pub returns-in_err-result-clause-refused : goal.returns-in_err-result-clause-refused
returns-in_err-result-clause-refused c =
    passed_on _ c.from_residual-in_err-result.result _ c.from_residual-in_err-result.ensures.1
    (in_later (required period_key duration_reading) (table_view c.args.table.now) c.in_ok-period.ensures.meant (in_made (simp c.default.ensures at c.in_err-result.ensures.refused)))
