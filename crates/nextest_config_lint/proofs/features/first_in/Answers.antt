use Rattle.std.proofs.Common.{◌≤◌, length, refl, subst}
use Rattle.toml.specs.View.{array_view}
use Rattle.nextest_config.proofs.Naming.{item_here}
use Rattle.nextest_config_lint.proofs.FirstNames.{is_at, none_at, none_at_all, none_before_first}
use Rattle.nextest_config_lint.proofs.features.first_in.Goals as goal

pub loop-index-init : goal.loop-index-init
loop-index-init c = none_before_first (array_view c.args.items.now) c.args.name.now

pub loop-index-preserved : goal.loop-index-preserved
loop-index-preserved c =
    let here = item_here c.deref-item-items.result.now c.args.items.now.items c.loop-index.index c.item-item.result c.deref-item-items.ensures.value c.loop-index-test.true c.item-item.is in
    none_at (array_view c.args.items.now) c.args.name.now c.loop-index.index _ here (λ is. cc (c.is_text.ensures.1 is, c.if-is_text.false)) c.loop-index.invariant

pub returns-then-is_text : goal.returns-then-is_text
returns-then-is_text c =
    let here = item_here c.deref-item-items.result.now c.args.items.now.items c.loop-index.index c.item-item.result c.deref-item-items.ensures.value c.loop-index-test.true c.item-item.is in
    (is_at (array_view c.args.items.now) c.args.name.now c.loop-index.index _ here (c.is_text.ensures.0 (rw c.if-is_text.true refl)), c.loop-index.invariant)

pub returns : goal.returns
returns c =
    let past = subst (λ xs. length xs ≤ c.loop-index.index) c.deref-item-items.ensures.value c.loop-index-test.false in
    none_at_all c.args.items.now.items c.args.name.now c.loop-index.index past c.loop-index.invariant
