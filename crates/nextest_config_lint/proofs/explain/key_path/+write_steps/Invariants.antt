use Rattle.std.proofs.Common.{length}
use Rattle.nextest_config_lint.proofs.explain.key_path.+write_steps.Given as goal

abbrev pub decreases-write_steps : goal.decreases-write_steps
decreases-write_steps l = length l.steps.now
