use Rattle.std.proofs.Common.{length}
use Rattle.nextest_config_values.proofs.Unjudged.Gaps.{IsSoFar}
use Rattle.nextest_config_values.proofs.duration.unjudged.without_gaps.Given as goal

abbrev pub invariant-loop-rest : goal.invariant-loop-rest
invariant-loop-rest l = IsSoFar l.text l.kept.items l.rest l.after_digit l.in_gap

abbrev pub decreases-loop-rest : goal.decreases-loop-rest
decreases-loop-rest l = length l.rest
