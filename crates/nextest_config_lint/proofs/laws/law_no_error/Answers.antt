use Rattle.nextest_config_lint.proofs.NoErrors.{no_error_in}
use Rattle.nextest_config_lint.proofs.laws.law_no_error.Goals as goal

pub returns : goal.returns
returns c = no_error_in
