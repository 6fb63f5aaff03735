use Rattle.nextest_config.proofs.Verdicts.{no_graver_greater, no_graver_selected}
use Rattle.nextest_config.proofs.laws.law_greater_current.Goals as goal

pub returns : goal.returns
returns c = record { roles = no_graver_greater; list = no_graver_selected }
