use Rattle.nextest_config_lint.proofs.ListFeatures.{never_true}
use Rattle.nextest_config_lint.proofs.list_features.ListFeatures.none.Goals as goal

pub returns : goal.returns
returns c = record { setup = never_true; wrapper = never_true; refused = never_true; no_table = never_true }
