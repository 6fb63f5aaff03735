use Rattle.std.proofs.lemmas.Result.{IfErr-weaker}
use Rattle.toml.specs.View.{table_view}
use Rattle.nextest_config_values.proofs.Faults.{in_first, in_later, passed_on}
use Rattle.nextest_config_values.specs.Read.{optional}
use Rattle.nextest_config.specs.NextestVersion.{recommended_key, required_key, version_reading}
use Rattle.nextest_config.proofs.nextest_version.nextest_version_deserialize.NextestVersionDeserialize.read_table.Goals as goal

pub returns-in_err-recommended-clause-refused : goal.returns-in_err-recommended-clause-refused
returns-in_err-recommended-clause-refused c =
    passed_on _ c.from_residual-in_err-recommended.result _ c.from_residual-in_err-recommended.ensures.1
    (in_later (optional required_key version_reading) (table_view c.args.table.now) c.in_ok-required.ensures.meant (in_first c.in_err-recommended.ensures.refused))

pub returns-clause-refused : goal.returns-clause-refused
returns-clause-refused c =
    let table = table_view c.args.table.now in
    IfErr-weaker c.in_order.result _ _
    (λ fault refused. in_later (optional required_key version_reading) table c.in_ok-required.ensures.meant (in_later (optional recommended_key version_reading) table c.in_ok-recommended.ensures.meant refused))
    c.in_order.ensures.refused
