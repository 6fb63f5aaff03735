use Rattle.std.proofs.Common.{◌≡◌, flat_map, map, string_bytes}
use Rattle.nextest_config_values.specs.Read.{words_of}
use Rattle.nextest_config_elements.specs.Fields.{field_words, fields_view}
use Rattle.nextest_config_lint.specs.Settings.{mark_step, of_name}
use Rattle.nextest_config_lint.specs.Traversal.{Visits}
use Rattle.nextest_config_lint.proofs.traversal.Traversal.show_refused.Given as goal

-- the keys so far were shown
abbrev pub invariant-loop-name : goal.invariant-loop-name
invariant-loop-name g l =
    (l.self.path.items ≡ l.fn.self.path.items) × Visits g.V.Visitor.has_visited (flat_map (λ name. of_name l.severity (words_of l.expected) (field_words (fields_view l.known)) (map mark_step l.fn.self.path.items) (string_bytes name.now)) l.yielded) l.fn.self.visitor l.self.visitor
