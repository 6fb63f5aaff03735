use Rattle.std.proofs.lemmas.Result.{IfOk-weaker}
use Rattle.nextest_config_lint.proofs.references.of_reference.Goals as goal

pub returns-in-Some-clause-reported : goal.returns-in-Some-clause-reported
returns-in-Some-clause-reported c =
    IfOk-weaker c.of_parent.result _ _
    (λ reported parent. λ files members by. rw (c.in-Parent.is, ← c.profile_of.ensures, c.in-Some.is) (parent files by.0)) c.of_parent.ensures.reported
