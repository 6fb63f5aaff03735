use Rattle.nextest_config.proofs.OneConfiguration.{configuration_once}
use Rattle.nextest_config.proofs.laws.law_configuration_once.Goals as goal

pub returns : goal.returns
returns c = configuration_once
