use Rattle.std.proofs.lemmas.Result.{IfOk-weaker}
use Rattle.nextest_config_lint.proofs.references.of_ruled.Goals as goal

pub returns-in-Some-last_key-clause-reported : goal.returns-in-Some-last_key-clause-reported
returns-in-Some-last_key-clause-reported c =
    IfOk-weaker c.of_definition.result _ _
    (λ reported named. λ files members by. rw (c.in-Definition.is, ← c.last_key-in-Definition.ensures, c.in-Some-last_key.is) (named files members by)) c.of_definition.ensures.reported

pub returns-in-Scripts-clause-reported : goal.returns-in-Scripts-clause-reported
returns-in-Scripts-clause-reported c files members by = rw c.in-Scripts.is (c.of_scripts.ensures.reported files members by)
