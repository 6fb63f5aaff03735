use Rattle.nextest_config.proofs.OneVerdict.{no_less_grave}
use Rattle.nextest_config.proofs.laws.law_added_source.Goals as goal

pub returns : goal.returns
returns c = no_less_grave
