use Rattle.toml.specs.View.{view}
use Rattle.nextest_config_profiles.specs.Report.Overrides.{IsSet}
use Rattle.nextest_config_profiles.proofs.Somes.{some_more}
use Rattle.nextest_config_profiles.proofs.report.overrides.settings.Goals as goal

pub loop-key-preserved : goal.loop-key-preserved
loop-key-preserved c =
    rw c.in_ok-push_some.ensures
    (some_more (IsSet (view c.args.value.now)) (λ word. word.now) _ c.loop-key.key-index _ _ c.in_ok-setting.setting c.loop-key-test.true c.loop-key.invariant c.in_ok-setting.ensures)
