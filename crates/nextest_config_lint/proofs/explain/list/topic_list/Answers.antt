use Rattle.nextest_config_lint.proofs.Listed.{one_more}
use Rattle.nextest_config_lint.proofs.explain.list.topic_list.Goals as goal

pub loop-topic-preserved : goal.loop-topic-preserved
loop-topic-preserved c =
    one_more c.deref-topic-items.result.now c.loop-topic.topic-index _ _ _ c.of.result.now c.loop-topic-test.true c.loop-topic.invariant c.of.ensures c.in_ok-push_line.ensures
