use Rattle.std.proofs.Common.{refl, rules}
use Rattle.std.proofs.lemmas.Result.{IfOk-weaker}
use Rattle.toml.specs.View.{view}
use Rattle.nextest_config.specs.NextestVersion.{feature_setting_of}
use Rattle.nextest_config_lint.proofs.ListFeatures.{named_said, reported_said}
use Rattle.nextest_config_lint.proofs.list_features.ListFeatures.of_value.Goals as goal

pub returns-in-Ok : goal.returns-in-Ok
returns-in-Ok c file has = named_said file (view c.args.value.now) (feature_setting_of c.in-Ok.named) _ has c.in-Ok.ensures.meant (search rules) (search rules) refl (search rules)

pub returns-in-Err : goal.returns-in-Err
returns-in-Err c =
    IfOk-weaker c.of_fault.result _ _ (λ features is. λ file has. rw is.0 (reported_said file (view c.args.value.now) _ _ is.1 c.in-Err.ensures.refused.told has)) c.of_fault.ensures
