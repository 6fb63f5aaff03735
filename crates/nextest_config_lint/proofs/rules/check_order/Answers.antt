use Rattle.toml.specs.View.{view}
use Rattle.nextest_config_lint.proofs.VersionOrder.{read_in_order}
use Rattle.nextest_config_lint.proofs.rules.check_order.Goals as goal

pub returns-in-Ok-clause-meant : goal.returns-in-Ok-clause-meant
returns-in-Ok-clause-meant c = read_in_order (view c.args.value.now) _ c.in-Ok.ensures.meant
