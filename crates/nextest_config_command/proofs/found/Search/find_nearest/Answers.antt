use Rattle.std.proofs.Common.{◌≡◌, ◌+◌, rules, string_bytes}
use Rattle.std.proofs.lemmas.Result.{err_from_is_err_and}
use Rattle.nextest_config_command.specs.Found.{IsPassedAt, path_above}
use Rattle.nextest_config_command.proofs.Walks.{passed_more, unread_above}
use Rattle.nextest_config_command.proofs.found.Search.find_nearest.Goals as goal

pub returns-in_err-found-clause-unread : goal.returns-in_err-found-clause-unread
returns-in_err-found-clause-unread g c =
    let p = err_from_is_err_and c.from_residual-in_err-found.result c.from_residual-in_err-found.ensures.1 in
    rw (p.1, p.2) (unread_above (g.F.Files.holds c.args.self.now.files.now) c.args.many c.loop-level._level _ c.loop-level-test.true c.loop-level.invariant.1
    (rw (c.as_str.ensures.value, c.loop-level.invariant.0) at c.in_err-found.ensures.unread))

pub loop-level-preserved : goal.loop-level-preserved
loop-level-preserved g c =
    let above : string_bytes c.in_ok-path-2.path ≡ path_above (c.loop-level._level + 1) = search rules in
    let here : IsPassedAt (g.F.Files.holds c.args.self.now.files.now) (path_above c.loop-level._level) =
    rw (c.in_default.is, c.as_str.ensures.value, c.loop-level.invariant.0) at c.in_ok-found.ensures.read in
    (above, passed_more (g.F.Files.holds c.args.self.now.files.now) c.loop-level._level c.loop-level.invariant.1 here)
