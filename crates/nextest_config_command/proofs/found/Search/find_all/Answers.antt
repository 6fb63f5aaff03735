use Rattle.std.proofs.lemmas.List.{map_more, map_push}
use Rattle.std.proofs.lemmas.Result.{err_from_is_err_and}
use Rattle.nextest_config.proofs.Lists.{map-around, zip_push}
use Rattle.nextest_config_command.specs.Found.{IsOutcome, IsStopped, outcome_of}
use Rattle.nextest_config_command.specs.Request.{wanted_of}
use Rattle.nextest_config_command.proofs.FirstFailures.{first_fails}
use Rattle.nextest_config_command.proofs.found.Search.find_all.Goals as goal

pub loop-file-preserved : goal.loop-file-preserved
loop-file-preserved g c =
    rw (map_more wanted_of c.args.request.now.repository.items c.loop-file.file-index c.file-item.result (rw c.deref-file-items.ensures.value at c.loop-file-test.true), ← (rw c.deref-file-items.ensures.value at c.file-item.is), c.in_ok-push.ensures, map_push outcome_of c.loop-file.found.items c.in_ok-file.file)
    (zip_push (IsOutcome (g.F.Files.holds c.args.self.now.files.now) c.args.request.now.task) _ _ _ _ c.loop-file.invariant c.in_ok-file.ensures.read)

pub returns-in_err-file-clause-unread : goal.returns-in_err-file-clause-unread
returns-in_err-file-clause-unread g c =
    let p = err_from_is_err_and c.from_residual.result c.from_residual.ensures.1 in
    rw (p.1, p.2) (first_fails (IsOutcome (g.F.Files.holds c.args.self.now.files.now) c.args.request.now.task) (IsStopped (g.F.Files.holds c.args.self.now.files.now) c.args.request.now.task) _ _ _ _ _ _
    (map-around wanted_of c.args.request.now.repository.items c.loop-file.file-index c.file-item.result (rw c.deref-file-items.ensures.value at c.loop-file-test.true) (rw c.deref-file-items.ensures.value at c.file-item.is)) c.loop-file.invariant c.in_err-file.ensures.unread)
