-- Nothing is left, so all was shown; and the table has each entry at its key.
use Rattle.std.proofs.Common.{◌≡◌, ◌∙◌, None, Some, map, rules, sym}
use Rattle.toml.proofs.Lines.{data_of_table}
use Rattle.toml.proofs.Views.{table_get}
use Rattle.toml.specs.Data.{as_array, as_table}
use Rattle.toml.specs.View.{array_view, table_view, view}
use Rattle.nextest_config_elements.proofs.Levels.{parts_elements, parts_elements_or_fields, parts_names}
use Rattle.std.proofs.lemmas.List.Elements.{recursion_from_All}
use Rattle.std.specs.BTreeMap.{get}
use Rattle.std.specs.String.{string_cmp}
use Rattle.nextest_config_elements.specs.Fields.{parts_of}
use Rattle.nextest_config_lint.specs.Settings.{mark_step, settings_in}
use Rattle.nextest_config_lint.proofs.FirstNames.{of_array}
use Rattle.nextest_config_lint.proofs.Profiles.{at_entries, entries_are}
use Rattle.nextest_config_lint.proofs.Traversals.{ends, goes_on_fields}
use Rattle.nextest_config_lint.proofs.traversal.Traversal.+visit.Goals as goal

pub visit_names-returns-clause-visited : goal.visit_names-returns-clause-visited
visit_names-returns-clause-visited g t c =
    let table = c.args.table.now in
    let collecting = settings_in c.args.shape c.args.severity (parts_of c.args.parts.now) in
    let path = map mark_step c.args.self.now.path.items in
    let at = recursion_from_All (λ entry. get string_cmp table entry.0 ≡ Some entry.1) table.entries c.into_iter-name-iterator.ensures.into_iter_gives.6 in
    rw (entries_are collecting path table table.entries at)
    (ends g.V.Visitor.has_visited (at_entries collecting path table.entries) _ _ (rw c.in-None.ensures.steps.0 at c.loop-name.invariant.1))

pub visit_parts-returns-in-Some-as_table-clause-visited : goal.visit_parts-returns-in-Some-as_table-clause-visited
visit_parts-returns-in-Some-as_table-clause-visited g t c =
    let held : as_table (view c.args.value.now) ≡ Some (table_view c.in-Some-as_table.table.now) = search rules in
    rw (c.in-Names.is, parts_names c.in-Names.shape c.in-Names.each, data_of_table (view c.args.value.now) _ held) c.visit_names.ensures.visited

pub visit_parts-returns-in-Some-as_array-clause-visited : goal.visit_parts-returns-in-Some-as_array-clause-visited
visit_parts-returns-in-Some-as_array-clause-visited g t c =
    let held : as_array (view c.args.value.now) ≡ Some (array_view c.in-Some-as_array.array.now) = search rules in
    rw (c.in-Elements.is, parts_elements c.in-Elements.shape c.in-Elements.each, of_array (view c.args.value.now) _ held) c.visit_elements.ensures.visited

pub visit_parts-returns-in-ElementsOrFields-clause-visited : goal.visit_parts-returns-in-ElementsOrFields-clause-visited
visit_parts-returns-in-ElementsOrFields-clause-visited g t c =
    rw (c.in-ElementsOrFields.is, parts_elements_or_fields c.in-ElementsOrFields.shape c.in-ElementsOrFields.fields) c.visit_either.ensures.visited

pub visit_field-returns-in-Some-clause-visited : goal.visit_field-returns-in-Some-clause-visited
visit_field-returns-in-Some-clause-visited g t c =
    rw (sym c.within-severity.ensures, sym (table_get (Some c.in-Some.value) c.args.field.now.key.now c.args.table.now.entries (rw c.in-Some.is at c.get.ensures.value))) c.visit_below.ensures.visited

pub visit_field-returns-in-None-clause-visited : goal.visit_field-returns-in-None-clause-visited
visit_field-returns-in-None-clause-visited g t c =
    rw (sym c.within-severity.ensures, sym (table_get None c.args.field.now.key.now c.args.table.now.entries (rw c.in-None.is at c.get.ensures.value))) c.show_absent.ensures.visited

pub visit_fields-loop-field-preserved : goal.visit_fields-loop-field-preserved
visit_fields-loop-field-preserved g t c =
    let shown = rw c.loop-field.invariant.0 at c.in_ok-visit_field.ensures.visited in (
      c.in_ok-visit_field.ensures.path ∙ c.loop-field.invariant.0,
      goes_on_fields g.V.Visitor.has_visited _ c.args.severity (map mark_step c.args.self.now.path.items) (table_view c.args.table.now) c.args.fields.now c.loop-field.field-index _ _ _ _
          c.loop-field-test.true c.loop-field.invariant.1 shown,
    )
