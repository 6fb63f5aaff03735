use Rattle.std.proofs.Common.{◌+◌, ◌-◌, ◌*◌, length}
use Rattle.nextest_config.proofs.merge.+read_halves.Given as goal

abbrev pub decreases-read_halves : goal.decreases-read_halves
decreases-read_halves g l = 2 * length l.sources.now

abbrev pub decreases-read_both : goal.decreases-read_both
decreases-read_both g l = 2 * (length l.first.now + length l.second.now) - 1
