use Rattle.nextest_config_lint.proofs.NoErrorReads.{no_error_reads}
use Rattle.nextest_config_lint.proofs.laws.law_no_error_reads.Goals as goal

pub returns : goal.returns
returns c = no_error_reads
