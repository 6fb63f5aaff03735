use Rattle.nextest_config.proofs.Naming.{adds_feature, adds_other}
use Rattle.nextest_config.proofs.nextest_version.experimental_deserialize.ExperimentalDeserialize.add.Goals as goal

pub returns-in_ok-add_feature-in-Ok-clause-added : goal.returns-in_ok-add_feature-in-Ok-clause-added
returns-in_ok-add_feature-in-Ok-clause-added c = adds_feature c.in-Ok.feature c.in-Ok.ensures.known c.in_ok-add_feature-in-Ok.ensures.added c.add_feature.ensures.in_order

pub returns-in_ok-add_text-in-Err-clause-added : goal.returns-in_ok-add_text-in-Err-clause-added
returns-in_ok-add_text-in-Err-clause-added c = adds_other c.in-Err.ensures.refused c.in_ok-add_text-in-Err.ensures.added c.in_ok-add_text-in-Err.ensures.in_order
