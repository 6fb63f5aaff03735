use Rattle.std.proofs.Common.{length}
use Rattle.nextest_config_profiles.proofs.report.standing.+follow.Given as goal

abbrev pub decreases-follow : goal.decreases-follow
decreases-follow l = length l.keys.now
