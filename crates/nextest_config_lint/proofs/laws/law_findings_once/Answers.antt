use Rattle.nextest_config_lint.proofs.FindingsOnce.{findings_once}
use Rattle.nextest_config_lint.proofs.laws.law_findings_once.Goals as goal

pub returns : goal.returns
returns c = findings_once
