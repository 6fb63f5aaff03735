use Rattle.nextest_config.proofs.Commands.{board_verdict}
use Rattle.nextest_config.proofs.laws.law_board_verdict.Goals as goal

pub returns : goal.returns
returns c = board_verdict
