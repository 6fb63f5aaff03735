use Rattle.std.proofs.Common.{length}
use Rattle.nextest_config_output.proofs.profile.time.+write_rest.Given as goal

abbrev pub decreases-write_rest : goal.decreases-write_rest
decreases-write_rest g l = length l.parts.now
