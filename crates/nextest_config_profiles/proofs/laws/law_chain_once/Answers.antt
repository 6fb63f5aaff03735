use Rattle.nextest_config_profiles.proofs.LeafLaws.{chain_once}
use Rattle.nextest_config_profiles.proofs.laws.law_chain_once.Goals as goal

pub returns : goal.returns
returns c = chain_once
