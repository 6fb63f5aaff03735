use Rattle.nextest_config_lint.proofs.ReportedReferences.{fault_reported}
use Rattle.nextest_config_lint.proofs.references.names.no_name.Goals as goal

pub returns-in_default-clause-reported : goal.returns-in_default-clause-reported
returns-in_default-clause-reported c = fault_reported c.args.kind c.args.error c.in_default.not-Memory
