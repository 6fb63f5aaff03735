use Rattle.std.proofs.lemmas.List.{map_more, map_push}
use Rattle.std.proofs.lemmas.Result.{err_from_is_err_and}
use Rattle.nextest_config.proofs.Lists.{map-around, zip_push}
use Rattle.nextest_config.specs.NextestVersion.{place_of}
use Rattle.nextest_config_command.specs.Files.{file_of, IsThere, IsUnreadAt}
use Rattle.nextest_config_command.proofs.FirstFailures.{first_fails}
use Rattle.nextest_config_command.proofs.found.Search.read_sources.Goals as goal

pub loop-source-preserved : goal.loop-source-preserved
loop-source-preserved g c =
    rw (map_more place_of c.args.sources.now c.loop-source.source-index c.source-item.result c.loop-source-test.true, ← c.source-item.is, c.in_ok-push.ensures, map_push file_of c.loop-source.read.items c.in_ok-file.file)
    (zip_push (IsThere (g.F.Files.holds c.args.self.now.files.now)) _ _ _ _ c.loop-source.invariant c.in_ok-file.ensures.read)

pub returns-in_err-file-clause-unread : goal.returns-in_err-file-clause-unread
returns-in_err-file-clause-unread g c =
    let p = err_from_is_err_and c.from_residual.result c.from_residual.ensures.1 in
    rw (p.1, p.2) (first_fails (IsThere (g.F.Files.holds c.args.self.now.files.now)) (λ place. IsUnreadAt (g.F.Files.holds c.args.self.now.files.now) place.path) _ _ _ _ _ _
    (map-around place_of c.args.sources.now c.loop-source.source-index c.source-item.result c.loop-source-test.true c.source-item.is) c.loop-source.invariant c.in_err-file.ensures.unread)
