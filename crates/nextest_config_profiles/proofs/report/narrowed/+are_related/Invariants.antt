use Rattle.std.proofs.Common.{length}
use Rattle.nextest_config_profiles.proofs.report.narrowed.+are_related.Given as goal

abbrev pub decreases-are_related : goal.decreases-are_related
decreases-are_related l = length l.keys.now
