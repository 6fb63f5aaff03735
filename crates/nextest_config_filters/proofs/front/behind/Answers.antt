use Rattle.nextest_config_filters.proofs.Characters.{stripped}
use Rattle.nextest_config_filters.proofs.front.behind.Goals as goal

pub returns : goal.returns
returns c = stripped c.args.text.now c.args.front.now c.strip_prefix.result c.utf8.text c.utf8.front c.strip_prefix.ensures.cases
