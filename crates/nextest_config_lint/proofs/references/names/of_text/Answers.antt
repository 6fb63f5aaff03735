use Rattle.std.proofs.Common.{inr}
use Rattle.std.proofs.lemmas.Result.{IfOk-weaker}
use Rattle.nextest_config_lint.proofs.references.names.of_text.Goals as goal

pub returns-in-Ok-clause-reported : goal.returns-in-Ok-clause-reported
returns-in-Ok-clause-reported c =
    IfOk-weaker c.of_name.result _ _ (λ reported kept. λ files by. inr (_, c.in-Ok.ensures.accepted, kept files by)) c.of_name.ensures.reported
