use Rattle.std.proofs.Common.{◌≡◌, ◌++◌}
use Rattle.nextest_config.specs.NextestVersion.{all_features, features_left, IsEnabled}
use Rattle.nextest_config.proofs.Members.{AreThoseOf}
use Rattle.nextest_config.proofs.nextest_version.experimental.ConfigExperimental.from_env.Given as goal

abbrev pub invariant-loop-feature : goal.invariant-loop-feature
invariant-loop-feature l =
    (all_features ≡ l.yielded ++ features_left l.feature-iterator) × AreThoseOf (IsEnabled l.variables) l.yielded l.features.keys
