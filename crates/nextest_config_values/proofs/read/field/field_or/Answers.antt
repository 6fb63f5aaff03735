use Rattle.std.proofs.Common.{rules}
use Rattle.toml.specs.View.{table_view}
use Rattle.nextest_config_values.proofs.Faults.{refused_where}
use Rattle.nextest_config_values.specs.Read.{or_default}
use Rattle.nextest_config_values.proofs.read.field.field_or.Goals as goal

pub returns-clause-refused : goal.returns-clause-refused
returns-clause-refused g c =
    refused_where (or_default c.args.key.now (g.T.FromToml.seen c.args.default) g.T.FromToml.reading) (table_view c.args.table.now) c.args.at.now _ _ c.or_default.ensures.refused
    c.map_err.ensures.cases (λ fault told made. search rules)
