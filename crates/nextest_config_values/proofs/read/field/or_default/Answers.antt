use Rattle.std.proofs.Common.{sym}
use Rattle.toml.specs.View.{table_view, view}
use Rattle.nextest_config_values.proofs.Faults.{refused_for}
use Rattle.nextest_config_values.specs.Read.{at_key, RefusesBy}
use Rattle.nextest_config_values.proofs.read.field.or_default.Goals as goal

pub returns-in-Some-clause-refused : goal.returns-in-Some-clause-refused
returns-in-Some-clause-refused g c =
    let refuses = RefusesBy (at_key c.args.key.now g.T.FromToml.reading (view c.in-Some.value.now)) in
    rw (sym c.in-Some.ensures) (refused_for refuses c.read_at_key.result c.read_at_key.ensures.refused (table_view c.args.table.now))
