use Rattle.std.proofs.Common.{arith}
use Rattle.nextest_config.proofs.Slots.{board_long}
use Rattle.nextest_config.proofs.board.config_board.ConfigBoard.slots.Goals as goal

pub returns : goal.returns
returns c =
    omega (arith, board_long _ _ _ _ c.self.invariant c.self.view_is, c.self.inside.sources.ok.0)
