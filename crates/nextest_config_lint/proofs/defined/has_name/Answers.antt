use Rattle.nextest_config_lint.proofs.DefinedNames.{has_iff}
use Rattle.nextest_config_lint.proofs.defined.has_name.Goals as goal

pub returns : goal.returns
returns c = has_iff c.args.names.now.keys c.args.name.now c.contains.result c.contains.ensures
