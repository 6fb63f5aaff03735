use Rattle.nextest_config.proofs.OneVerdict.{verdict_once}
use Rattle.nextest_config.proofs.laws.law_verdict_once.Goals as goal

pub returns : goal.returns
returns c = verdict_once
