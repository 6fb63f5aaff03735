use Rattle.std.proofs.Common.{map, take}
use Rattle.nextest_config_lint.specs.Defined.{AreDocuments, file_of}
use Rattle.nextest_config_lint.proofs.defined.are_documents.Given as goal

abbrev pub invariant-loop-file : goal.invariant-loop-file
invariant-loop-file l = AreDocuments (map file_of (take l.file-index l.files))
