use Rattle.toml.specs.View.{table_view}
use Rattle.nextest_config_values.proofs.Faults.{passed_on}
use Rattle.nextest_config.specs.NextestVersion.{features_asked, versions_asked}
use Rattle.nextest_config.proofs.SourceRefusals.{wrong_first, wrong_later, wrong_setting}
use Rattle.nextest_config.proofs.nextest_version.version_only_deserialize.VersionOnlyDeserialize.of_table.Goals as goal

pub returns-in_err-nextest_version-clause-refused : goal.returns-in_err-nextest_version-clause-refused
returns-in_err-nextest_version-clause-refused c =
    wrong_first c.from_residual.result _ _ _
    (wrong_setting c.from_residual.result versions_asked (table_view c.args.table.now) c.in_err-nextest_version.field-0.0 c.from_residual.ensures.1
    (rw c.nothing-default.ensures at c.in_err-nextest_version.ensures.refused))

pub returns-in_err-experimental-clause-refused : goal.returns-in_err-experimental-clause-refused
returns-in_err-experimental-clause-refused c =
    let result = c.from_residual-in_err-experimental.result in
    wrong_later result _ _ _ _ (rw c.nothing-default.ensures at c.in_ok-nextest_version.ensures.meant)
    (wrong_first result _ _ _
    (wrong_setting result (features_asked c.args.edition) (table_view c.args.table.now) c.in_err-experimental.field-0.0 c.from_residual-in_err-experimental.ensures.1 c.in_err-experimental.ensures.refused))

pub returns-in_err-check_tool-clause-refused : goal.returns-in_err-check_tool-clause-refused
returns-in_err-check_tool-clause-refused c =
    let result = c.from_residual-in_err-check_tool.result in
    wrong_later result _ _ _ _ (rw c.nothing-default.ensures at c.in_ok-nextest_version.ensures.meant)
    (wrong_later result _ _ _ _ c.in_ok-experimental.ensures.meant
    (passed_on _ result _ c.from_residual-in_err-check_tool.ensures.1 c.in_err-check_tool.ensures.refused))
