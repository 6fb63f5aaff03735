use Rattle.std.proofs.Common.{length}
use Rattle.nextest_config_profiles.proofs.report.wanted.+field_at.Given as goal

abbrev pub decreases-field_at : goal.decreases-field_at
decreases-field_at l = length l.keys.now
