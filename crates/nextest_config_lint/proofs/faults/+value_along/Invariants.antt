use Rattle.std.proofs.Common.{length}
use Rattle.nextest_config_lint.proofs.faults.+value_along.Given as goal

abbrev pub decreases-value_along : goal.decreases-value_along
decreases-value_along l = length l.steps.now
