use Rattle.std.proofs.lemmas.Result.{IfOk-weaker}
use Rattle.nextest_config_lint.proofs.references.find_at.Goals as goal

pub returns-in-RuledTable-clause-reported : goal.returns-in-RuledTable-clause-reported
returns-in-RuledTable-clause-reported c =
    IfOk-weaker c.of_ruled.result _ _ (λ reported ruled. λ files members by. rw c.in-RuledTable.is (ruled files members by)) c.of_ruled.ensures.reported
