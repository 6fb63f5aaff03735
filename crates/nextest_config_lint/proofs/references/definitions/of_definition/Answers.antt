use Rattle.std.proofs.Common.{inr}
use Rattle.std.proofs.lemmas.Result.{IfOk-weaker}
use Rattle.nextest_config_lint.proofs.references.definitions.of_definition.Goals as goal

pub returns-in-Ok-clause-reported : goal.returns-in-Ok-clause-reported
returns-in-Ok-clause-reported c =
    IfOk-weaker c.of_kept.result _ _ (λ reported kept. λ files members by. inr (_, c.in-Ok.ensures.accepted, rw c.as_str.ensures.value at (kept files members by))) c.of_kept.ensures.reported
