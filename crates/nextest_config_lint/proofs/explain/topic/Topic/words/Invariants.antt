use Rattle.std.proofs.Common.{◌≡◌, map, take}
use Rattle.nextest_config_lint.specs.Explain.Topic.{topic_word}
use Rattle.nextest_config_lint.proofs.explain.topic.Topic.words.Given as goal

-- those of the topics so far
abbrev pub invariant-loop-topic : goal.invariant-loop-topic
invariant-loop-topic l = map (λ word. word.now) l.words.items ≡ map topic_word (take l.topic-index l.topic-items)
