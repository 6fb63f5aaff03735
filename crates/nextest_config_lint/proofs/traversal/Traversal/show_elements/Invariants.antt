use Rattle.std.proofs.Common.{◌≡◌, drop, map}
use Rattle.toml.specs.View.{array_view, items_view}
use Rattle.nextest_config_lint.specs.Settings.{at_items, mark_step, plain_element}
use Rattle.nextest_config_lint.proofs.Traversals.{IsOnWay}
use Rattle.nextest_config_lint.proofs.traversal.Traversal.show_elements.Given as goal

abbrev pub invariant-loop-index : goal.invariant-loop-index
invariant-loop-index g l =
    let at = at_items (plain_element l.shape l.severity) (map mark_step l.fn.self.path.items) in
    (l.self.path.items ≡ l.fn.self.path.items) × IsOnWay g.V.Visitor.has_visited (at 0 (array_view l.array)) (at l.index (items_view (drop l.index l.array.items))) l.fn.self.visitor l.self.visitor
