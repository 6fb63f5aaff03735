use Rattle.nextest_config.specs.NextestVersion.{features_left, IsEnabled}
use Rattle.nextest_config.proofs.Features.{goes_on, those_of_all}
use Rattle.nextest_config.proofs.Members.{one_that_fails, one_that_holds}
use Rattle.nextest_config.proofs.nextest_version.experimental.ConfigExperimental.from_env.Goals as goal

pub loop-feature-preserved-in-Continue-1 : goal.loop-feature-preserved-in-Continue-1
loop-feature-preserved-in-Continue-1 c =
    let (whole, those) = c.loop-feature.invariant in (
      goes_on c.loop-feature.yielded (features_left c.loop-feature.feature-iterator) (features_left c.next.new.self) c.in-Some.feature whole c.in-Some.ensures.steps,
      one_that_holds (IsEnabled c.args.variables.now) c.loop-feature.yielded c.loop-feature.features.keys c.add_feature.new.features.keys c.in-Some.feature those c.in_ok-add_feature.ensures.added (c.is_enabled.ensures.0 c.if-is_enabled.true),
    )

pub loop-feature-preserved : goal.loop-feature-preserved
loop-feature-preserved c =
    let (whole, those) = c.loop-feature.invariant in (
      goes_on c.loop-feature.yielded (features_left c.loop-feature.feature-iterator) (features_left c.next.new.self) c.in-Some.feature whole c.in-Some.ensures.steps,
      one_that_fails (IsEnabled c.args.variables.now) c.loop-feature.yielded c.loop-feature.features.keys c.in-Some.feature those (λ enabled. cc (c.is_enabled.ensures.1 enabled, c.if-is_enabled.false)),
    )

pub returns : goal.returns
returns c =
    let (whole, those) = c.loop-feature.invariant in
    those_of_all (IsEnabled c.args.variables.now) c.loop-feature.yielded (features_left c.loop-feature.feature-iterator) c.loop-feature.features.keys whole c.in-None.ensures.steps.0 those
