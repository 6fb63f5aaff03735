use Rattle.std.proofs.Common.{◌≡◌, ◌-◌, ◌/◌, length, ap, ◌∙◌, arith}
use Rattle.std.proofs.lemmas.List.{length-set}
use Rattle.nextest_config.specs.Choice.Choices.{undivided}
use Rattle.nextest_config.specs.Merge.{total}
use Rattle.nextest_config.proofs.Choices.{alone_set, both_held, chosen_of_both, first_held, second_held, set_first, set_second}
use Rattle.nextest_config.proofs.Halvings.{halvings_alone, halvings_first, halvings_second}
use Rattle.nextest_config.proofs.choice.tree.+set_within.Goals as goal
use Rattle.nextest_config.proofs.choice.tree.+set_within.Goals.{then-slot-half, else-slot-half}

pub returns-then-half-eq0-clause-holds : goal.returns-then-half-eq0-clause-holds
returns-then-half-eq0-clause-holds g t c = undivided (omega (arith, length-set c.args.leaves.now c.args.slot c.args.leaf))

pub returns-then-half-eq0-clause-whole : goal.returns-then-half-eq0-clause-whole
returns-then-half-eq0-clause-whole g t c = alone_set g.K.Choose.choice g.K.Choose.nothing g.met.K.Choose.laws c.args.leaves.now c.args.slot c.args.leaf c.requires.slot_within (omega arith)

pub returns-then-half-eq0-clause-counted : goal.returns-then-half-eq0-clause-counted
returns-then-half-eq0-clause-counted g t c = let alone = halvings_alone (length c.args.leaves.now) c.args.slot (omega arith) in omega arith

pub set_within-requires : goal.set_within-requires
set_within-requires g t c κs within =
    let long = c.split_at_mut-first.ensures.front_len in
    let less = c.split_at_mut-first_nodes.ensures.front_len in
    let step = halvings_first (length c.args.leaves.now) c.args.slot (omega arith) c.if-slot-half.true in
    let held = first_held g.K.Choose.choice g.K.Choose.nothing (omega arith) c.requires.choices c.split_at_mut-first.ensures.front c.split_at_mut-first_nodes.ensures.front in
    (omega (arith, c.decreases, long), (within.0, (within.1, (omega (arith, long), (omega (arith, long, less), (held, rw long (omega (arith, step, c.requires.countable))))))))

pub whole_of-requires-clause-choices : goal.whole_of-requires-clause-choices
whole_of-requires-clause-choices g t c =
    second_held g.K.Choose.choice g.K.Choose.nothing (omega arith) c.requires.choices c.split_at_mut-first.ensures.back c.split_at_mut-first_nodes.ensures.back c.split_at_mut-node.ensures.back

pub whole_of-requires-else-slot-half-clause-choices : goal.whole_of-requires-else-slot-half-clause-choices
whole_of-requires-else-slot-half-clause-choices g t c =
    first_held g.K.Choose.choice g.K.Choose.nothing (omega arith) c.requires.choices c.split_at_mut-first.ensures.front c.split_at_mut-first_nodes.ensures.front

pub set_within-requires-else-slot-half : goal.set_within-requires-else-slot-half
set_within-requires-else-slot-half g t c κs within =
    let long : length c.split_at_mut-first.result.1.now ≡ length c.args.leaves.now - length c.args.leaves.now / 2 = omega (arith, c.split_at_mut-first.ensures.back_len) in
    let less = c.split_at_mut-first_nodes.ensures.back_len in
    let step = halvings_second (length c.args.leaves.now) c.args.slot (omega arith) c.if-slot-half.false in
    let held = second_held g.K.Choose.choice g.K.Choose.nothing (omega arith) c.requires.choices c.split_at_mut-first.ensures.back c.split_at_mut-first_nodes.ensures.back c.split_at_mut-node.ensures.back in
    (omega (arith, c.decreases, long), (within.0, (within.1, (omega (arith, long), (omega (arith, long, less, c.split_at_mut-node.ensures.back_len), (held, rw long (omega (arith, step, c.requires.countable))))))))

pub choose-chosen-requires : goal.choose-chosen-requires
choose-chosen-requires g t c = elim c.if-slot-half.branch [
  | then-slot-half w ↦ (
      let step = halvings_first (length c.args.leaves.now) c.args.slot (omega arith) w.if-slot-half.true in
      rw w.count-is (omega (arith, step, rw c.split_at_mut-first.ensures.front_len at w.set_within.ensures.counted, c.requires.countable)))
  | else-slot-half w ↦ (
      let step = halvings_second (length c.args.leaves.now) c.args.slot (omega arith) w.if-slot-half.false in
      let long : length c.split_at_mut-first.result.1.now ≡ length c.args.leaves.now - length c.args.leaves.now / 2 = omega (arith, c.split_at_mut-first.ensures.back_len) in
      rw w.count-is (omega (arith, step, rw long at w.set_within-else-slot-half.ensures.counted, c.requires.countable)))
]

pub returns-clause-counted : goal.returns-clause-counted
returns-clause-counted g t c = elim c.if-slot-half.branch [
  | then-slot-half w ↦ (
      let step = halvings_first (length c.args.leaves.now) c.args.slot (omega arith) w.if-slot-half.true in
      omega (arith, step, rw c.split_at_mut-first.ensures.front_len at w.set_within.ensures.counted, ap g.K.Choose.number w.count-is, c.choose-chosen.ensures.counted))
  | else-slot-half w ↦ (
      let step = halvings_second (length c.args.leaves.now) c.args.slot (omega arith) w.if-slot-half.false in
      let long : length c.split_at_mut-first.result.1.now ≡ length c.args.leaves.now - length c.args.leaves.now / 2 = omega (arith, c.split_at_mut-first.ensures.back_len) in
      omega (arith, step, rw long at w.set_within-else-slot-half.ensures.counted, ap g.K.Choose.number w.count-is, c.choose-chosen.ensures.counted))
]

pub returns-clause-replaced : goal.returns-clause-replaced
returns-clause-replaced g t c = elim c.if-slot-half.branch [
  | then-slot-half w ↦ w.leaves-is ∙ set_first c.split_at_mut-first.result.0.now c.split_at_mut-first.result.1.now c.args.slot c.args.leaf c.split_at_mut-first.ensures.value (omega (arith, c.split_at_mut-first.ensures.front_len, w.if-slot-half.true)) w.set_within.ensures.replaced
  | else-slot-half w ↦ w.leaves-is ∙ set_second c.split_at_mut-first.result.0.now c.split_at_mut-first.result.1.now c.args.slot c.args.leaf c.split_at_mut-first.ensures.value (length c.args.leaves.now / 2) c.split_at_mut-first.ensures.front_len w.if-slot-half.false w.set_within-else-slot-half.ensures.replaced
]

pub returns-clause-whole : goal.returns-clause-whole
returns-clause-whole g t c = c.choose-chosen.ensures.chosen ∙ elim c.if-slot-half.branch [
  | then-slot-half w ↦ rw w.first_whole-is (chosen_of_both g.K.Choose.choice g.K.Choose.nothing g.met.K.Choose.laws w.set_within.new.leaves c.split_at_mut-first.result.1.now w.leaves-is w.set_within.ensures.whole w.whole_of.ensures)
  | else-slot-half w ↦ rw w.first_whole-is (chosen_of_both g.K.Choose.choice g.K.Choose.nothing g.met.K.Choose.laws c.split_at_mut-first.result.0.now w.set_within-else-slot-half.new.leaves w.leaves-is w.whole_of-else-slot-half.ensures w.set_within-else-slot-half.ensures.whole)
]

pub returns-clause-holds : goal.returns-clause-holds
returns-clause-holds g t c =
    let first = c.split_at_mut-first.ensures in
    let first_nodes = c.split_at_mut-first_nodes.ensures in
    let node = c.split_at_mut-node.ensures in
    elim c.if-slot-half.branch [
      | then-slot-half w ↦
          rw (w.leaves-is, w.first_nodes-is, w.second_nodes-is) (both_held g.K.Choose.choice g.K.Choose.nothing w.set_within.new.leaves c.split_at_mut-first.result.1.now w.set_within.new.nodes c.split_at_mut-node.result.0.now c.split_at_mut-node.result.1.now c.choose-chosen.result
          (length c.args.leaves.now) (omega arith) (w.set_within.auto.leaves ∙ first.front_len) (omega (arith, w.set_within.auto.leaves, first.front_len, first.back_len)) (w.set_within.auto.nodes ∙ first_nodes.front_len) node.front_len
          (returns-clause-whole g t c ∙ ap (total g.K.Choose.choice g.K.Choose.nothing) w.leaves-is) w.set_within.ensures.holds (second_held g.K.Choose.choice g.K.Choose.nothing (omega arith) c.requires.choices first.back first_nodes.back node.back))
      | else-slot-half w ↦
          rw (w.leaves-is, w.first_nodes-is, w.second_nodes-is) (both_held g.K.Choose.choice g.K.Choose.nothing c.split_at_mut-first.result.0.now w.set_within-else-slot-half.new.leaves c.split_at_mut-first_nodes.result.0.now c.split_at_mut-node.result.0.now w.set_within-else-slot-half.new.nodes c.choose-chosen.result
          (length c.args.leaves.now) (omega arith) first.front_len (omega (arith, w.set_within-else-slot-half.auto.leaves, first.front_len, first.back_len)) first_nodes.front_len node.front_len
          (returns-clause-whole g t c ∙ ap (total g.K.Choose.choice g.K.Choose.nothing) w.leaves-is) (first_held g.K.Choose.choice g.K.Choose.nothing (omega arith) c.requires.choices first.front first_nodes.front) w.set_within-else-slot-half.ensures.holds)
    ]
