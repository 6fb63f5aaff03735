use Rattle.std.proofs.Common.{rules}
use Rattle.toml.specs.View.{view}
use Rattle.nextest_config_lint.proofs.ReportedReferences.{has_a_key}
use Rattle.nextest_config_lint.proofs.references.definitions.has_members.Goals as goal

pub returns-in-Some : goal.returns-in-Some
returns-in-Some c = has_a_key (view c.args.value.now) c.in-Some.table.now c.is_empty.result (search rules) c.is_empty.ensures
