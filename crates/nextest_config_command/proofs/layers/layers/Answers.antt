use Rattle.std.proofs.Common.{refl}
use Rattle.std.proofs.lemmas.List.{take_more}
use Rattle.nextest_config.proofs.Lists.{zip_push}
use Rattle.nextest_config_command.specs.Layers.{IsLent}
use Rattle.nextest_config_command.proofs.layers.layers.Goals as goal

pub loop-file-preserved : goal.loop-file-preserved
loop-file-preserved c =
    rw (take_more c.args.files.now c.loop-file.file-index c.file-item.result c.loop-file-test.true, ← c.file-item.is, c.in_ok-push.ensures.items)
    (zip_push IsLent _ _ _ _ c.loop-file.invariant (record { source_is = refl; document_is = refl; index_is = refl }))
