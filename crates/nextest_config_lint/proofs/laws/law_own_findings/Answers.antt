use Rattle.nextest_config_lint.proofs.FindingsOnce.{own_findings_once}
use Rattle.nextest_config_lint.proofs.laws.law_own_findings.Goals as goal

pub returns : goal.returns
returns c = own_findings_once
