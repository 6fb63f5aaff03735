use Rattle.nextest_config_lint.specs.Settings.{setting_view}
use Rattle.nextest_config_lint.proofs.RightValues.{one_more_right}
use Rattle.nextest_config_lint.proofs.right.RightnessVisitor.visit.Goals as goal

pub returns : goal.returns
returns c start before so_far began =
    one_more_right before (setting_view c.args.setting.now) c.args.self.now.is_right c.in_ok-right.right (so_far began) c.in_ok-right.ensures
