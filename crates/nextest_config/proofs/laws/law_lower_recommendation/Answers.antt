use Rattle.nextest_config.proofs.Verdicts.{no_warning}
use Rattle.nextest_config.proofs.laws.law_lower_recommendation.Goals as goal

pub returns : goal.returns
returns c = no_warning
