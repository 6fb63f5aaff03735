use Rattle.nextest_config_profiles.specs.Report.Others.{IsOther}
use Rattle.nextest_config_profiles.proofs.Somes.{some_more}
use Rattle.nextest_config_profiles.proofs.report.others.others.Goals as goal

pub loop-key-preserved : goal.loop-key-preserved
loop-key-preserved c =
    rw c.in_ok-push_some.ensures
    (some_more (IsOther c.args.effective.now) (λ word. word.now) _ c.loop-key.key-index _ _ c.in_ok-other.other c.loop-key-test.true c.loop-key.invariant c.in_ok-other.ensures)
