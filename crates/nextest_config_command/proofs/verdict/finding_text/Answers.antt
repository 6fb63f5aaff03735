use Rattle.std.proofs.Common.{string_bytes}
use Rattle.std.proofs.lemmas.Result.{IfOk-weaker}
use Rattle.nextest_config_command.proofs.VerdictsReported.{verdict_reported}
use Rattle.nextest_config_command.proofs.verdict.finding_text.Goals as goal

pub returns-in-Some : goal.returns-in-Some
returns-in-Some c =
    rw (← c.unmet_version.ensures, c.in-Some.is)
    (IfOk-weaker c.unmet_text.result _ _ (λ text reported. verdict_reported _ _ _ _ (string_bytes text) reported) c.unmet_text.ensures)
