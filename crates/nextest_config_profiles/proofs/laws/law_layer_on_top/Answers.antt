use Rattle.nextest_config_profiles.proofs.LeafLaws.{none_above, none_below}
use Rattle.nextest_config_profiles.proofs.OneLeaf.{others_stay}
use Rattle.nextest_config_profiles.proofs.laws.law_layer_on_top.Goals as goal

pub returns-clause-below : goal.returns-clause-below
returns-clause-below c = none_below

pub returns-clause-above : goal.returns-clause-above
returns-clause-above c = none_above

pub returns-clause-others : goal.returns-clause-others
returns-clause-others c = others_stay
