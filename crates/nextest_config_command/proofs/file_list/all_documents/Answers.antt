use Rattle.std.proofs.Common.{map}
use Rattle.std.proofs.lemmas.List.{map-append}
use Rattle.nextest_config.specs.NextestVersion.{AreDocumentsOf, IsDocumentOf}
use Rattle.nextest_config.proofs.Lists.{zip_joined}
use Rattle.toml_spans.proofs.Elements.{all_joined, all_left, all_right}
use Rattle.nextest_config_command.specs.FileList.{AreDocuments, given_file, IsDocumentFile}
use Rattle.nextest_config_command.proofs.file_list.all_documents.Goals as goal

pub returns-in_default : goal.returns-in_default
returns-in_default c =
    let none : ¬ AreDocuments c.args.files.now.tools.items = rw c.as_slice.ensures.value at (rw c.in_default.is at c.in_ok-all.ensures) in
    λ all. none (all_left IsDocumentFile _ _ all)

pub returns-in_default-2 : goal.returns-in_default-2
returns-in_default-2 c =
    let none : ¬ AreDocuments c.args.files.now.repository.items = rw c.as_slice-2.ensures.value at (rw c.in_default-2.is at c.in_ok-rest.ensures) in
    λ all. none (all_right IsDocumentFile _ _ all)

pub returns : goal.returns
returns c =
    let tools : AreDocuments c.args.files.now.tools.items × AreDocumentsOf (map given_file c.args.files.now.tools.items) c.in-Some.all.items =
    rw c.as_slice.ensures.value at (rw c.in-Some.is at c.in_ok-all.ensures) in
    let repository : AreDocuments c.args.files.now.repository.items × AreDocumentsOf (map given_file c.args.files.now.repository.items) c.in-Some-2.rest.items =
    rw c.as_slice-2.ensures.value at (rw c.in-Some-2.is at c.in_ok-rest.ensures) in (
      all_joined IsDocumentFile _ _ tools.0 repository.0,
      rw (map-append given_file c.args.files.now.tools.items c.args.files.now.repository.items, c.in_ok-append.ensures.items) (zip_joined IsDocumentOf _ _ _ _ tools.1 repository.1),
    )
