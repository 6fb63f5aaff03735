use Rattle.nextest_config.proofs.Commands.{counts_last, holds_last, stays_long}
use Rattle.nextest_config.proofs.laws.law_board_follows.Goals as goal

pub returns : goal.returns
returns c = record { slots = stays_long; holds = holds_last; selections = counts_last }
