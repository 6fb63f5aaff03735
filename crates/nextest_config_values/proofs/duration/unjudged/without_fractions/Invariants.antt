use Rattle.std.proofs.Common.{◌≡◌, ◌++◌, length}
use Rattle.nextest_config_values.specs.Duration.Unjudged.{before_by, without_fractions, without_fractions_after}
use Rattle.nextest_config_values.proofs.duration.unjudged.without_fractions.Given as goal

abbrev pub invariant-loop-rest : goal.invariant-loop-rest
invariant-loop-rest l = l.kept.items ++ without_fractions_after (before_by l.after_digit) l.rest ≡ without_fractions l.text

abbrev pub decreases-loop-rest : goal.decreases-loop-rest
decreases-loop-rest l = length l.rest
