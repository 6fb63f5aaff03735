use Rattle.nextest_config_profiles.proofs.LeafLaws.{leaf_once}
use Rattle.nextest_config_profiles.proofs.laws.law_leaf_once.Goals as goal

pub returns : goal.returns
returns c = leaf_once
