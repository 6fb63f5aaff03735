use Rattle.std.proofs.Common.{length}
use Rattle.nextest_config_profiles.proofs.report.wanted.+push_keys.Given as goal

abbrev pub decreases-push_keys : goal.decreases-push_keys
decreases-push_keys l = length l.path.now
