use Rattle.std.proofs.Common.{arith}
use Rattle.nextest_config.proofs.Halves.{one_more, refused_next}
use Rattle.nextest_config.proofs.merge.read_few.Goals as goal

pub returns-in-Err-clause-refused : goal.returns-in-Err-clause-refused
returns-in-Err-clause-refused g c =
    let read = c.loop-position.invariant in
    rw c.shift.ensures (refused_next g.T.ReadPiece.told (g.T.ReadPiece.piece c.args.context.now) (g.T.ReadPiece.wrong c.args.context.now) c.args.sources.now c.loop-position.position c.index-sources-position.result c.in-Err.refusal
    (omega arith) c.index-sources-position.is (read.0, read.1) c.in-Err.ensures.refused)

pub loop-position-preserved : goal.loop-position-preserved
loop-position-preserved g c =
    one_more g.T.Merge.join g.T.Merge.neutral g.T.Merge.seen (g.T.ReadPiece.piece c.args.context.now) g.met.T.Merge.laws c.args.sources.now c.loop-position.position c.index-sources-position.result c.in-Ok.later
    (g.T.Merge.seen c.loop-position.piece) (g.T.Merge.seen c.merge.new.self) (omega arith) c.index-sources-position.is c.loop-position.invariant c.in-Ok.ensures.read c.in_ok-merge-in-Ok.ensures.joined
