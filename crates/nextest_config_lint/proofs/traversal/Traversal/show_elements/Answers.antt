use Rattle.std.proofs.Common.{◌∙◌, map}
use Rattle.nextest_config_lint.specs.Settings.{mark_step, plain_element}
use Rattle.nextest_config_lint.proofs.Traversals.{goes_on, items_from}
use Rattle.nextest_config_lint.proofs.traversal.Traversal.show_elements.Goals as goal

pub loop-index-preserved : goal.loop-index-preserved
loop-index-preserved g c =
    let left = items_from (plain_element c.args.shape c.args.severity) (map mark_step c.args.self.now.path.items) c.args.array.now.items c.loop-index.index c.value-item.result
    (rw c.deref-value-items.ensures.value at c.loop-index-test.true) (rw c.deref-value-items.ensures.value at c.value-item.is) in (
      c.in_ok-show_element.ensures.path ∙ c.loop-index.invariant.0,
      goes_on g.V.Visitor.has_visited _ _ _ _ _ _ (rw left at c.loop-index.invariant.1) (rw c.loop-index.invariant.0 at c.in_ok-show_element.ensures.visited),
    )
