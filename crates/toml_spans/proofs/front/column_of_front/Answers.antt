use Rattle.std.proofs.Common.{◌+◌, arith, get_or}
use Rattle.toml_spans.proofs.Columns.{column_of_more, column_within}
use Rattle.toml_spans.proofs.front.column_of_front.Goals as goal

pub loop-byte-preserved : goal.loop-byte-preserved
loop-byte-preserved c =
    let so_far = c.loop-byte.invariant in (
      rw c.column_after-column.ensures (column_of_more c.args.front.now c.loop-byte.byte-index 0 c.loop-byte.column c.loop-byte-test.true so_far.0),
      rw c.column_after-column.ensures (column_within c.loop-byte.column (get_or c.args.front.now c.loop-byte.byte-index 0) (c.loop-byte.byte-index + 1) so_far.1 (omega arith)),
    )
