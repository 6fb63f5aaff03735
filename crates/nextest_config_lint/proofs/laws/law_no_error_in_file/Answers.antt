use Rattle.nextest_config_lint.proofs.NoErrorFiles.{no_error_in_file}
use Rattle.nextest_config_lint.proofs.laws.law_no_error_in_file.Goals as goal

pub returns : goal.returns
returns c = no_error_in_file
