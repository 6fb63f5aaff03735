use Rattle.std.proofs.lemmas.List.{map_push, take_more}
use Rattle.nextest_config.proofs.Lists.{zip_push}
use Rattle.nextest_config_lint.specs.Defined as findings
use Rattle.nextest_config_command.specs.FileFindings.{IsListFile}
use Rattle.nextest_config_command.proofs.parsed_file.list_files.Goals as goal

pub loop-file-preserved : goal.loop-file-preserved
loop-file-preserved c =
    rw (take_more c.args.files.now c.loop-file.file-index c.file-item.result c.loop-file-test.true, ← c.file-item.is, c.in_ok-push.ensures.items, map_push findings.file_of c.loop-file.list.items c.listed.result)
    (zip_push IsListFile _ _ _ _ c.loop-file.invariant c.listed.ensures)
