use Rattle.std.proofs.Common.{length}
use Rattle.nextest_config_profiles.proofs.report.standing.+behind.Given as goal

abbrev pub decreases-behind : goal.decreases-behind
decreases-behind l = length l.chain.now
