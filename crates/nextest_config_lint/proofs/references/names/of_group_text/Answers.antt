use Rattle.std.proofs.Common.{◌≢◌, codes, inr, rules}
use Rattle.std.proofs.lemmas.Result.{IfOk-weaker}
use Rattle.nextest_config_lint.proofs.references.names.of_group_text.Goals as goal

pub returns-clause-reported : goal.returns-clause-reported
returns-clause-reported c =
    let other : c.args.text.now ≢ codes "@global" = search rules in
    IfOk-weaker c.of_text.result _ _ (λ reported named. λ files by. inr (other, named files by)) c.of_text.ensures.reported
