use Rattle.std.proofs.Common.{◌≡◌, map, take}
use Rattle.nextest_config.specs.declared.nextest_version.borrowed_source.BorrowedSource.TheVariants.{Document}
use Rattle.nextest_config.proofs.nextest_version.borrowed_source.BorrowedSource.of_documents.Given as goal

abbrev pub invariant-loop-document : goal.invariant-loop-document
invariant-loop-document l = l.sources.items ≡ map Document (take l.document-index l.documents)
