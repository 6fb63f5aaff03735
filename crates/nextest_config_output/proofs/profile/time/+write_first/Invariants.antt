use Rattle.std.proofs.Common.{length}
use Rattle.nextest_config_output.proofs.profile.time.+write_first.Given as goal

abbrev pub decreases-write_first : goal.decreases-write_first
decreases-write_first g l = length l.parts.now
