use Rattle.std.proofs.Common.{◌≡◌, length}
use Rattle.nextest_config_vectors.proofs.lists.tree.after_each.Given as goal

abbrev pub invariant-loop-change : goal.invariant-loop-change
invariant-loop-change l = length l.tree ≡ l.leaves
