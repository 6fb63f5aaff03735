use Rattle.std.proofs.Common.{length}
use Rattle.nextest_config_output.proofs.profile.sourced_line.+mark_of_unset.Given as goal

abbrev pub decreases-mark_of_unset : goal.decreases-mark_of_unset
decreases-mark_of_unset l = length l.keys.now
