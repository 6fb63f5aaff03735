use Rattle.std.proofs.Common.{length}
use Rattle.nextest_config_profiles.proofs.report.narrowed.+value_below.Given as goal

abbrev pub decreases-value_below : goal.decreases-value_below
decreases-value_below l = length l.keys.now
