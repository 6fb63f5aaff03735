use Rattle.std.proofs.Common.{◌+◌, ◌*◌, length}
use Rattle.toml_spans.proofs.table.+along.Given as goal

abbrev pub decreases-along : goal.decreases-along
decreases-along l = 4 * (length l.path.now + 2 * length l.dots.now) + 1

abbrev pub decreases-along_dots : goal.decreases-along_dots
decreases-along_dots l = 8 * length l.dots.now

abbrev pub decreases-through : goal.decreases-through
decreases-through l = 4 * (length l.path.now + 2 * length l.dots.now) + 2
