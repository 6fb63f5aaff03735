use Rattle.std.proofs.Common.{subst, sym}
use Rattle.std.proofs.lemmas.List.{take_more}
use Rattle.nextest_config.proofs.Lists.{zip_push}
use Rattle.nextest_config_command.specs.FileList.{IsDocumentFile}
use Rattle.nextest_config_command.specs.Layers.{IsIndexed}
use Rattle.nextest_config_command.proofs.LayersOfFiles.{one_of_all}
use Rattle.nextest_config_command.proofs.layers.indexed_each.Goals as goal

pub indexed_file-requires : goal.indexed_file-requires
indexed_file-requires c =
    subst IsDocumentFile (sym c.file-item.is) (one_of_all IsDocumentFile c.args.files.now c.loop-file.file-index c.file-item.result c.requires c.loop-file-test.true)

pub loop-file-preserved : goal.loop-file-preserved
loop-file-preserved c =
    rw (take_more c.args.files.now c.loop-file.file-index c.file-item.result c.loop-file-test.true, ← c.file-item.is, c.in_ok-push.ensures.items)
    (zip_push IsIndexed _ _ _ _ c.loop-file.invariant c.in_ok-indexed_file.ensures)
