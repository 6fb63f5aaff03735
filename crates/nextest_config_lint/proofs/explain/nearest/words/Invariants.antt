use Rattle.std.proofs.Common.{◌≡◌, ◌++◌, map, string_bytes, take}
use Rattle.nextest_config_values.specs.Read.{words_of}
use Rattle.nextest_config_lint.specs.Explain.Topic.{topic_word, topics}
use Rattle.nextest_config_lint.proofs.explain.nearest.words.Given as goal

-- those of the topics, and the paths so far
abbrev pub invariant-loop-path : goal.invariant-loop-path
invariant-loop-path l = words_of l.words.items ≡ map topic_word topics ++ map string_bytes (take l.path-index l.paths)
