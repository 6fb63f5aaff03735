use Rattle.std.proofs.Common.{length}
use Rattle.nextest_config.proofs.choice.tree.+set_within.Given as goal

abbrev pub decreases-set_within : goal.decreases-set_within
decreases-set_within g l = length l.leaves.now
