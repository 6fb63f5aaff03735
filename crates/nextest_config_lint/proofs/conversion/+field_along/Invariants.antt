use Rattle.std.proofs.Common.{length}
use Rattle.nextest_config_lint.proofs.conversion.+field_along.Given as goal

abbrev pub decreases-field_along : goal.decreases-field_along
decreases-field_along l = length l.keys.now
