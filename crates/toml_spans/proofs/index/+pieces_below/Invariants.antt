use Rattle.std.proofs.Common.{◌+◌, ◌*◌, length}
use Rattle.toml_spans.proofs.index.+pieces_below.Given as goal

abbrev pub decreases-pieces_below : goal.decreases-pieces_below
decreases-pieces_below l = 2 * length l.steps.now

abbrev pub decreases-pieces_of_table : goal.decreases-pieces_of_table
decreases-pieces_of_table l = 2 * length l.steps.now

abbrev pub decreases-pieces_at_key : goal.decreases-pieces_at_key
decreases-pieces_at_key l = 2 * length l.rest.now + 1

abbrev pub decreases-pieces_at_index : goal.decreases-pieces_at_index
decreases-pieces_at_index l = 2 * length l.rest.now + 1
