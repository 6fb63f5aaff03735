use Rattle.nextest_config_profiles.proofs.LeafLaws.{silent_layers}
use Rattle.nextest_config_profiles.proofs.laws.law_silent_layers.Goals as goal

pub returns : goal.returns
returns c = silent_layers
