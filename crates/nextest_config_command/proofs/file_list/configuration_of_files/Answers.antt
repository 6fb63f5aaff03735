use Rattle.std.proofs.Common.{inr, map}
use Rattle.nextest_config_command.specs.FileList.{given_file}
use Rattle.nextest_config_command.specs.Found.{all_files, files_of}
use Rattle.nextest_config_command.proofs.FileLists.{document_texts, refused_documents}
use Rattle.nextest_config_command.proofs.file_list.configuration_of_files.Goals as goal

pub returns-in_default : goal.returns-in_default
returns-in_default c = refused_documents _ _ (rw c.in_default.is at c.in_ok-documents.ensures)

pub returns-in-Ok : goal.returns-in-Ok
returns-in-Ok c =
    let documents = rw c.in-Some.is at c.in_ok-documents.ensures in
    let read = c.in-Ok.ensures.read (map given_file (all_files (files_of c.args.files.now))) (rw (← c.as_slice.ensures.value) at documents.1) in
    (documents.0, (document_texts _ documents.0, (read.stands, read.selected)))

pub returns-in-Err-Refused : goal.returns-in-Err-Refused
returns-in-Err-Refused c =
    let documents = rw c.in-Some.is at c.in_ok-documents.ensures in
    let refused = (c.in-Err-Refused.ensures.refused (map given_file (all_files (files_of c.args.files.now))) (rw (← c.as_slice.ensures.value) at documents.1)).refused in
    let reported = rw c.in-Err-Refused.field-0-is at refused in
    inr (document_texts _ documents.0, (c.in-Err-Refused.field-0-0, reported.0, reported.2))
