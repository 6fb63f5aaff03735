use Rattle.std.proofs.Common.{take}
use Rattle.nextest_config.specs.Merge.{IsJoinOfPieces}
use Rattle.nextest_config.proofs.merge.read_few.Given as goal

-- the sources so far have pieces, and this is their join
abbrev pub invariant-loop-position : goal.invariant-loop-position
invariant-loop-position g l = IsJoinOfPieces g.T.Merge.join g.T.Merge.neutral g.T.Merge.seen (g.T.ReadPiece.piece l.context) (take l.position l.sources) (g.T.Merge.seen l.piece)
