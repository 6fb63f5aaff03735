use Rattle.std.proofs.Common.{◌≡◌, drop, map}
use Rattle.toml.specs.View.{array_view, items_view, table_view}
use Rattle.nextest_config_elements.specs.Fields.{fields_view, parts_of}
use Rattle.nextest_config_lint.specs.Settings.{at_items, mark_step, settings_in, settings_of_fields}
use Rattle.nextest_config_lint.proofs.Profiles.{at_entries}
use Rattle.nextest_config_lint.proofs.Traversals.{IsOnWay}
use Rattle.nextest_config_lint.proofs.traversal.Traversal.+visit.Given as goal

abbrev pub invariant-visit_elements-loop-index : goal.invariant-visit_elements-loop-index
invariant-visit_elements-loop-index g l =
    let at = at_items (settings_in l.shape l.severity (parts_of l.parts)) (map mark_step l.fn.self.path.items) in
    (l.self.path.items ≡ l.fn.self.path.items) × IsOnWay g.V.Visitor.has_visited (at 0 (array_view l.array)) (at l.index (items_view (drop l.index l.array.items))) l.fn.self.visitor l.self.visitor

abbrev pub invariant-visit_names-loop-name : goal.invariant-visit_names-loop-name
invariant-visit_names-loop-name g l =
    let at = at_entries (settings_in l.shape l.severity (parts_of l.parts)) (map mark_step l.fn.self.path.items) in
    (l.self.path.items ≡ l.fn.self.path.items) × IsOnWay g.V.Visitor.has_visited (at l.table.entries) (at l.name-iterator) l.fn.self.visitor l.self.visitor

abbrev pub invariant-visit_fields-loop-field : goal.invariant-visit_fields-loop-field
invariant-visit_fields-loop-field g l =
    (l.self.path.items ≡ l.fn.self.path.items) × IsOnWay g.V.Visitor.has_visited
    (settings_of_fields (fields_view l.fields) l.severity (map mark_step l.fn.self.path.items) (table_view l.table))
    (settings_of_fields (fields_view (drop l.field-index l.fields)) l.severity (map mark_step l.fn.self.path.items) (table_view l.table))
    l.fn.self.visitor l.self.visitor
