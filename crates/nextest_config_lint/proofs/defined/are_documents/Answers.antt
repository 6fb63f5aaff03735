use Rattle.std.proofs.Common.{ap, not, sym}
use Rattle.std.proofs.lemmas.Bool.{true≢false}
use Rattle.nextest_config_lint.proofs.DefinedNames.{unread}
use Rattle.nextest_config_lint.proofs.defined.are_documents.Goals as goal

pub returns-then-is_none : goal.returns-then-is_none
returns-then-is_none c = (
  λ yes. absurd (true≢false (sym yes)),
  λ all. absurd (unread c.args.files.now c.loop-file.file-index c.file-item.result c.loop-file-test.true c.file-item.is (ap not c.if-is_none.ensures) all),
)
