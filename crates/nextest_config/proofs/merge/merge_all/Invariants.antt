use Rattle.std.proofs.Common.{◌≡◌, map, take}
use Rattle.std.specs.List.{AllByRecursion}
use Rattle.nextest_config.specs.Merge.{total}
use Rattle.nextest_config.proofs.merge.merge_all.Given as goal

-- the pieces so far are neutral, and the join of all is what it was
abbrev pub invariant-loop-piece : goal.invariant-loop-piece
invariant-loop-piece g l = record {
  emptied : AllByRecursion (λ piece. g.T.Merge.seen piece ≡ g.T.Merge.neutral) (take l.piece-index l.pieces);
  kept : g.T.Merge.join (g.T.Merge.seen l.into) (total g.T.Merge.join g.T.Merge.neutral (map g.T.Merge.seen l.pieces))
      ≡ g.T.Merge.join (g.T.Merge.seen l.fn.into) (total g.T.Merge.join g.T.Merge.neutral (map g.T.Merge.seen l.fn.pieces));
}
