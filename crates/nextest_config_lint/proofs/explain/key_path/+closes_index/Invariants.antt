use Rattle.std.proofs.Common.{length}
use Rattle.nextest_config_lint.proofs.explain.key_path.+closes_index.Given as goal

abbrev pub decreases-closes_index : goal.decreases-closes_index
decreases-closes_index l = length l.text.now
