use Rattle.std.proofs.Common.{◌≡◌, replicate}
use Rattle.nextest_config.proofs.choice.tree.nothing_chosen.Given as goal

abbrev pub invariant-loop-slot : goal.invariant-loop-slot
invariant-loop-slot g l = l.chosen.items ≡ replicate l._slot g.K.Choose.nothing
