use Rattle.std.proofs.Common.{string_bytes, take}
use Rattle.nextest_config_lint.specs.Explain.TopicList.{AreListed}
use Rattle.nextest_config_lint.proofs.explain.list.topic_list.Given as goal

-- the lines of the topics so far
abbrev pub invariant-loop-topic : goal.invariant-loop-topic
invariant-loop-topic l = AreListed (take l.topic-index l.topic-items) (string_bytes l.list)
