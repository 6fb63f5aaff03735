use Rattle.std.proofs.Common.{length, arith}
use Rattle.nextest_config.proofs.Halvings.{halvings_digits}
use Rattle.nextest_config_vectors.proofs.lists.tree.set.Goals as goal

pub set-requires-clause-countable : goal.set-requires-clause-countable
set-requires-clause-countable c = let few = halvings_digits (length c.args.tree.now) c.args.slot 4 (omega arith) in omega arith
