use Rattle.std.proofs.Common.{◌≢◌, take}
use Rattle.std.specs.List.{AllByRecursion}
use Rattle.nextest_config_lint.specs.Code.{code_word}
use Rattle.nextest_config_lint.proofs.explain.topic.Topic.from_word.Given as goal

-- the word is no code so far
abbrev pub invariant-loop-code : goal.invariant-loop-code
invariant-loop-code l = AllByRecursion (λ code. code_word code ≢ l.word) (take l.code-index l.code-items)
