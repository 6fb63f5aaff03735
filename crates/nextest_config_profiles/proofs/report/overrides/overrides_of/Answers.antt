use Rattle.nextest_config_profiles.specs.Report.Elements.{element_of}
use Rattle.nextest_config_profiles.specs.Report.Overrides.{IsOverride}
use Rattle.nextest_config_profiles.proofs.Zipped.{zip_more}
use Rattle.nextest_config_profiles.proofs.report.overrides.overrides_of.Goals as goal

pub loop-element-preserved : goal.loop-element-preserved
loop-element-preserved c = rw c.in_ok-push.ensures.items
    (zip_more (IsOverride c.args.effective.now) element_of c.args.elements.now c.loop-element.element-index _ _ _ c.loop-element-test.true c.loop-element.invariant (rw c.element-item.is at c.in_ok-override_of.ensures))
