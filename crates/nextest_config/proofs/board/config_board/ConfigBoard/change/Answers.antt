use Rattle.std.proofs.Common.{ℕ, length, set, ap, subst, ◌∙◌, arith}
use Rattle.nextest_config.specs.Choice.Halvings.{halvings}
use Rattle.nextest_config.specs.Board.Slots.{BoardState, IsHeld, slot_of}
use Rattle.nextest_config.proofs.Halvings.{halvings_digits}
use Rattle.nextest_config.proofs.Slots.{board_long, held_set}
use Rattle.nextest_config.proofs.board.config_board.ConfigBoard.change.Goals as goal

pub index_mut-requires : goal.index_mut-requires
index_mut-requires c =
    omega (arith, board_long _ _ _ _ c.self.invariant c.self.view_is, c.self.inside.sources.ok.0, c.requires.within)

pub set-requires-clause-slot_within : goal.set-requires-clause-slot_within
set-requires-clause-slot_within c =
    omega (arith, board_long _ _ _ _ c.self.invariant c.self.view_is, c.requires.within)

pub set-requires-clause-countable : goal.set-requires-clause-countable
set-requires-clause-countable c =
    let few = halvings_digits (length c.self.inside.tree) c.args.slot 64 (omega (arith, board_long _ _ _ _ c.self.invariant c.self.view_is, c.self.inside.sources.ok.0, c.self.inside.sources.ok.1, c.self.inside.sources.small)) in
    omega arith

pub returns : goal.returns
returns c =
    let seen = ap (λ (state : BoardState). state.slots) c.self.view_is in
    let held = subst (λ (n : ℕ). IsHeld n c.args.source c.args.pair) (omega arith) c.requires.of_slot in
    let changed = held_set 0 c.args.slot c.self.inside.sources.items c.self.inside.tree c.args.source c.args.pair c.self.invariant held in
    record {
      within = c.requires.within;
      slots = rw c.set.ensures.replaced (changed.1 ∙ ap (λ slots. set slots c.args.slot (slot_of c.args.source c.args.pair)) seen);
      selections = c.set.ensures.counted ∙ omega (arith, ap (λ n. halvings n c.args.slot) (board_long _ _ _ _ c.self.invariant c.self.view_is).1);
    }
