use Rattle.std.proofs.Common.{sym}
use Rattle.toml.specs.View.{table_view}
use Rattle.nextest_config_values.proofs.Faults.{in_made, passed_on}
use Rattle.nextest_config_values.specs.Read.{optional, RefusesBy}
use Rattle.nextest_config_values.proofs.read.field.optional.Goals as goal

pub returns-in_err-x-in-Some-clause-refused : goal.returns-in_err-x-in-Some-clause-refused
returns-in_err-x-in-Some-clause-refused g c =
    let members = table_view c.args.table.now in
    passed_on (RefusesBy (optional c.args.key.now g.T.FromToml.reading) members) c.from_residual.result c.in_err-x-in-Some.field-0.0
    c.from_residual.ensures.1 (rw (sym c.in-Some.ensures) (in_made (c.in_err-x-in-Some.ensures.refused members)))
