use Rattle.std.proofs.Common.{length, ap, arith}
use Rattle.nextest_config.proofs.Choices.{none_holds}
use Rattle.nextest_config.proofs.choice.tree.ChoiceTree.new.Goals as goal

pub invariant_of-result : goal.invariant_of-result
invariant_of-result g c =
    let leaves = c.in_ok-nothing_chosen.ensures in
    let nodes = c.in_ok-nothing_chosen-2.ensures in
    (omega (arith, ap length leaves, ap length nodes), rw (leaves, nodes) (none_holds g.K.Choose.choice g.K.Choose.nothing g.met.K.Choose.laws c.args.n))
