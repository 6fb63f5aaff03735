use Rattle.std.proofs.Common.{sym, ◌∙◌}
use Rattle.nextest_config_profiles.specs.Reach.{words_of}
use Rattle.nextest_config_profiles.proofs.MergedOver.{over_next, reached_result}
use Rattle.nextest_config_profiles.proofs.merged.merged_below.Goals as goal

pub loop-layer-preserved : goal.loop-layer-preserved
loop-layer-preserved c below =
    c.in_ok-merged.ensures below
    ∙ rw (c.loop-layer.invariant below, c.follow_on.ensures below)
    (sym (over_next c.args.layers.now (words_of c.args.path.now) c.loop-layer.layer-index c.layer-item.result c.loop-layer-test.true c.layer-item.is below))

pub returns : goal.returns
returns c all above reached =
    reached_result c.args.layers.now (words_of c.args.path.now) c.loop-layer.layer-index c.loop-layer-test.false all above reached c.loop-layer.merged c.loop-layer.invariant
