use Rattle.std.proofs.Common.{arith}
use Rattle.nextest_config.proofs.merge.PieceRefusal.shift.Goals as goal

pub overflow_add-result : goal.overflow_add-result
overflow_add-result g c = omega (arith, rw c.in-Refused.is at c.requires)
