use Rattle.std.proofs.Common.{◌∷◌, [], map, take}
use Rattle.std.proofs.lemmas.List.{map_push, take_more}
use Rattle.nextest_config.specs.NextestVersion.{IsDocumentOf}
use Rattle.nextest_config.proofs.Lists.{zip_push}
use Rattle.toml_spans.proofs.Elements.{all_joined}
use Rattle.nextest_config_command.specs.FileList.{given_file, IsDocumentFile}
use Rattle.nextest_config_command.proofs.file_list.documents.Goals as goal

pub loop-file-preserved : goal.loop-file-preserved
loop-file-preserved c =
    let so_far = take c.loop-file.file-index c.args.files.now in
    let file = c.file-item.result in
    let is_document = rw c.in-Some.is at c.document.ensures in
    rw (take_more c.args.files.now c.loop-file.file-index file c.loop-file-test.true, ← c.file-item.is, c.in_ok-push-in-Some.ensures.items, map_push given_file so_far file)
    (all_joined IsDocumentFile so_far (file ∷ []) c.loop-file.invariant.0 (is_document.0, tt), zip_push IsDocumentOf (map given_file so_far) c.loop-file.documents.items (given_file file) c.in-Some.document c.loop-file.invariant.1 is_document.1)
