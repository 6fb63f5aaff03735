use Rattle.nextest_config_command.proofs.LintStatus.{lint_passes}
use Rattle.nextest_config_command.proofs.laws.law_lint_status.Goals as goal

pub returns : goal.returns
returns c = lint_passes
