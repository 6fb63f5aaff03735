use Rattle.std.proofs.Common.{map, take}
use Rattle.nextest_config.specs.NextestVersion.{AreDocumentsOf}
use Rattle.nextest_config_command.specs.FileList.{AreDocuments, given_file}
use Rattle.nextest_config_command.proofs.file_list.documents.Given as goal

-- the files so far are documents, which are given
abbrev pub invariant-loop-file : goal.invariant-loop-file
invariant-loop-file l = AreDocuments (take l.file-index l.fn.files)
    × AreDocumentsOf (map given_file (take l.file-index l.fn.files)) l.documents.items
