use Rattle.nextest_config_lint.proofs.Leading.{findings_lead}
use Rattle.nextest_config_lint.proofs.laws.law_findings_lead.Goals as goal

pub returns : goal.returns
returns c = findings_lead
