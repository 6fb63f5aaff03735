use Rattle.std.proofs.Common.{ℕ, List, ◌∙◌, map, string_bytes}
use Rattle.std.proofs.lemmas.Map.Iter.{iter_end}
use Rattle.std.specs.BTreeMap.{keys}
use Rattle.std.specs.Map.Iter.{deref}
use Rattle.nextest_config_values.specs.Read.{words_of}
use Rattle.nextest_config_elements.specs.Fields.{field_words, fields_view}
use Rattle.nextest_config_lint.specs.Settings.{mark_step, of_name, SettingView}
use Rattle.nextest_config_lint.proofs.Keys.{of_all_names}
use Rattle.nextest_config_lint.proofs.Traversals.{visits_next}
use Rattle.nextest_config_lint.proofs.traversal.Traversal.show_refused.Goals as goal

pub loop-name-preserved : goal.loop-name-preserved
loop-name-preserved g c =
    let at : List ℕ → List SettingView = of_name c.args.severity (words_of c.args.expected.now) (field_words (fields_view c.args.known.now)) (map mark_step c.args.self.now.path.items) in (
      c.in_ok-show_unknown.ensures.path ∙ c.loop-name.invariant.0,
      visits_next g.V.Visitor.has_visited (λ name. at (string_bytes name.now)) c.loop-name.yielded c.in-Some.name _ _ _ c.loop-name.invariant.1
          (rw (c.loop-name.invariant.0, c.as_str.ensures.value) at c.in_ok-show_unknown.ensures.visited),
    )

pub returns-clause-visited : goal.returns-clause-visited
returns-clause-visited g c =
    let at : List ℕ → List SettingView = of_name c.args.severity (words_of c.args.expected.now) (field_words (fields_view c.args.known.now)) (map mark_step c.args.self.now.path.items) in
    let ended = iter_end deref (keys c.args.table.now) c.loop-name.yielded _ _ _ _ (c.into_iter-name-iterator.ensures.into_iter_gives ∙ c.keys-name-items.ensures.rest) c.loop-name.yielded_by c.in-None.is c.next.ensures.steps in
    rw (of_all_names c.args.table.now.entries c.loop-name.yielded at ended.0) at c.loop-name.invariant.1
