use Rattle.std.proofs.Common.{◌≡◌, ◌++◌, ◌∙◌, ap₂, subst, IfErr}
use Rattle.std.proofs.lemmas.List.{take-append-drop}
use Rattle.nextest_config.specs.Merge.{IsRefusalOfPieces}
use Rattle.nextest_config.proofs.Halves.{of_both, only_memory, refused_in_first, refused_in_second}
use Rattle.nextest_config.proofs.merge.+read_halves.Goals as goal

pub read_halves-returns-then-sources-le-FEW-clause-only : goal.read_halves-returns-then-sources-le-FEW-clause-only
read_halves-returns-then-sources-le-FEW-clause-only g t c pieces =
    only_memory g.T.ReadPiece.told (g.T.ReadPiece.piece c.args.context.now) (g.T.ReadPiece.wrong c.args.context.now) g.T.Merge.seen (g.met.T.ReadPiece.reads_one c.args.context.now) c.args.sources.now c.read_few.result pieces c.read_few.ensures.refused

pub read_halves-returns-clause-only : goal.read_halves-returns-clause-only
read_halves-returns-clause-only g t c pieces =
    let whole : c.split_at.result.0.now ++ c.split_at.result.1.now ≡ c.args.sources.now = ap₂ (λ xs ys. xs ++ ys) c.split_at.ensures.front c.split_at.ensures.back ∙ take-append-drop _ c.args.sources.now in
    let refused = subst (λ sources. IfErr c.read_both.result (IsRefusalOfPieces g.T.ReadPiece.told (g.T.ReadPiece.piece c.args.context.now) (g.T.ReadPiece.wrong c.args.context.now) sources)) whole c.read_both.ensures.refused in
    only_memory g.T.ReadPiece.told (g.T.ReadPiece.piece c.args.context.now) (g.T.ReadPiece.wrong c.args.context.now) g.T.Merge.seen (g.met.T.ReadPiece.reads_one c.args.context.now) c.args.sources.now c.read_both.result pieces refused

-- the first half is refused
pub read_both-returns-in-Err-clause-refused : goal.read_both-returns-in-Err-clause-refused
read_both-returns-in-Err-clause-refused g t c =
    refused_in_first g.T.ReadPiece.told (g.T.ReadPiece.piece c.args.context.now) (g.T.ReadPiece.wrong c.args.context.now) c.args.first.now c.args.second.now c.in-Err.refusal c.in-Err.ensures.refused

-- the first half is read, and the second is refused
pub read_both-returns-in-Err-read_halves-clause-refused : goal.read_both-returns-in-Err-read_halves-clause-refused
read_both-returns-in-Err-read_halves-clause-refused g t c =
    let read = c.in-Ok.ensures.joined in
    rw c.shift.ensures (refused_in_second g.T.ReadPiece.told (g.T.ReadPiece.piece c.args.context.now) (g.T.ReadPiece.wrong c.args.context.now) c.args.first.now c.args.second.now c.in-Err-read_halves.refusal (read.0, read.1) c.in-Err-read_halves.ensures.refused)

-- both halves are read
pub read_both-returns-in_ok-merge_all-in-Ok-read_halves-clause-joined : goal.read_both-returns-in_ok-merge_all-in-Ok-read_halves-clause-joined
read_both-returns-in_ok-merge_all-in-Ok-read_halves-clause-joined g t c =
    let joined = rw c.from_mut.ensures.value at c.in_ok-merge_all-in-Ok-read_halves.ensures.joined in
    of_both g.T.Merge.join g.T.Merge.neutral g.T.Merge.seen (g.T.ReadPiece.piece c.args.context.now) g.met.T.Merge.laws c.args.first.now c.args.second.now (g.T.Merge.seen c.in-Ok.piece) (g.T.Merge.seen c.in-Ok-read_halves.later) (g.T.Merge.seen c.merge_all.new.into)
    c.in-Ok.ensures.joined c.in-Ok-read_halves.ensures.joined joined
