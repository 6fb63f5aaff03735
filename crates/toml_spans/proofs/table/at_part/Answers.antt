use Rattle.std.proofs.Common.{◌∙◌}
use Rattle.toml_spans.specs.KeyViews.{part_of}
use Rattle.toml_spans.proofs.Turns.{at_part_turn, gives_err}
use Rattle.toml_spans.proofs.Views.{looked_up, written_at}
use Rattle.toml_spans.proofs.table.at_part.Goals as goal

pub returns-in_err-slot-in-Some : goal.returns-in_err-slot-in-Some
returns-in_err-slot-in-Some c =
    let found = rw c.in-Some.is at (looked_up _ _ c.args.members.now c.get_mut.result c.as_str.ensures.value c.get_mut.ensures.value) in
    gives_err _ _ c.from_residual.ensures.1 λ refused. at_part_turn (part_of c.args.last) _ _
    ∙ rw (found, rw c.take-entry.ensures at (c.in_err-slot-in-Some.ensures refused))

pub returns-in_ok-slot-in-Some : goal.returns-in_ok-slot-in-Some
returns-in_ok-slot-in-Some c =
    let found = rw c.in-Some.is at (looked_up _ _ c.args.members.now c.get_mut.result c.as_str.ensures.value c.get_mut.ensures.value) in
    let w = c.in_ok-slot-in-Some.field-0 in
    at_part_turn (part_of c.args.last) _ _
    ∙ rw (found, rw c.take-entry.ensures at c.in_ok-slot-in-Some.ensures, written_at _ _ c.args.members.now (c.get_mut.follows.lender w) w c.as_str.ensures.value (c.get_mut.follows.holds w).0)

pub returns-in-None : goal.returns-in-None
returns-in-None c =
    let none = rw c.in-None.is at (looked_up _ _ c.args.members.now c.get_mut.result c.as_str.ensures.value c.get_mut.ensures.value) in
    rw (at_part_turn (part_of c.args.last), none) (rw (c.new_entry.ensures, c.get_mut.follows.holds-at-none) at c.insert.ensures)
