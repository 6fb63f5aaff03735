use Rattle.std.proofs.Common.{◌≡◌, map, take}
use Rattle.nextest_config_lint.specs.declared.explain.topic.Topic.TheVariants.{Finding}
use Rattle.nextest_config_lint.proofs.explain.topic.Topic.all.Given as goal

-- those of the codes so far
abbrev pub invariant-loop-code : goal.invariant-loop-code
invariant-loop-code l = l.all.items ≡ map Finding (take l.code-index l.code-items)
