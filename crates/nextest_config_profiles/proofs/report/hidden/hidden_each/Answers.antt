use Rattle.nextest_config_profiles.specs.Reach.{words_of}
use Rattle.nextest_config_profiles.specs.Report.Hidden.{IsHidden}
use Rattle.nextest_config_profiles.specs.Report.Standing.{standing_of}
use Rattle.nextest_config_profiles.proofs.Zipped.{zip_more}
use Rattle.nextest_config_profiles.proofs.report.hidden.hidden_each.Goals as goal

pub loop-standing-preserved : goal.loop-standing-preserved
loop-standing-preserved c =
    let is = IsHidden c.args.effective.now (words_of c.args.keys.now) in
    rw c.in_ok-push.ensures.items
    (zip_more is standing_of c.args.standings.now c.loop-standing.standing-index _ _ _ c.loop-standing-test.true c.loop-standing.invariant (rw c.standing-item.is at c.in_ok-hidden_row.ensures))
