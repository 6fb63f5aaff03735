use Rattle.std.proofs.Common.{ℕ, List, [], append-nil, map, refl, string_bytes, sym, ◌∙◌}
use Rattle.std.proofs.lemmas.Map.Iter.{iter_end}
use Rattle.std.specs.BTreeMap.{keys}
use Rattle.std.specs.Map.Iter.{deref}
use Rattle.nextest_config_lint.specs.Settings.{mark_step}
use Rattle.nextest_config_elements.specs.Fields.{field_words, fields_view}
use Rattle.nextest_config_lint.specs.Unknown.{IsKeyFound, TableKey, key_at}
use Rattle.nextest_config_lint.proofs.FoundLists.{adds_next}
use Rattle.nextest_config_lint.proofs.Keys.{all_names}
use Rattle.nextest_config_lint.proofs.unknown.add_beside.Goals as goal

pub loop-name-init : goal.loop-name-init
loop-name-init c = ([], refl, sym (append-nil _))

pub loop-name-preserved : goal.loop-name-preserved
loop-name-preserved c =
    let at : List ℕ → TableKey = key_at (field_words (fields_view c.args.fields.now)) (map mark_step c.args.path.now) in
    adds_next IsKeyFound (λ name. at (string_bytes name.now)) c.loop-name.yielded c.in-Some.name _ _ _
    c.loop-name.invariant (rw c.as_str.ensures.value at c.in_ok-add_key.ensures)

pub returns : goal.returns
returns c =
    let at : List ℕ → TableKey = key_at (field_words (fields_view c.args.fields.now)) (map mark_step c.args.path.now) in
    let ended = iter_end deref (keys c.args.table.now) c.loop-name.yielded _ _ _ _ (c.into_iter-name-iterator.ensures.into_iter_gives ∙ c.keys-name-items.ensures.rest) c.loop-name.yielded_by c.in-None.is c.next.ensures.steps in
    rw (all_names c.args.table.now.entries c.loop-name.yielded at ended.0) at c.loop-name.invariant
