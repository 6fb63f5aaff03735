use Rattle.std.proofs.Common.{◌≡◌, ◌∙◌, [], ◌∷◌, ◌++◌, string_bytes, sym, ap, subst, append_assoc}
use Rattle.std.proofs.lemmas.List.{take_all}
use Rattle.std.specs.List.Sorted.{IsStrictlySortedBy}
use Rattle.std.specs.Map.{keys_of}
use Rattle.std.specs.String.{string_cmp}
use Rattle.serde_json.proofs.Views.{members_view-insert_entry}
use Rattle.serde_json.specs.View.{items_of, members_view as json_members_view}
use Rattle.toml.proofs.Views.{Entry}
use Rattle.nextest_config_values.proofs.JsonValues.{items_in_json, put_last}
use Rattle.nextest_config_values.proofs.literal.json.+json.Goals as goal

pub items_in_json-returns : goal.items_in_json-returns
items_in_json-returns t c =
    let all = c.deref-item-items.result.now in
    ap items_of (rw (take_all c.loop-item.item-index all c.loop-item-test.false) at c.loop-item.invariant) ∙ rw c.deref-item-items.ensures.value (items_in_json c.args.items.now.items)

pub members_in_json-loop-key-preserved : goal.members_in_json-loop-key-preserved
members_in_json-loop-key-preserved t c =
    let l = c.loop-key in
    let (done, split, so_far) = l.invariant in
    let e : Entry = (c.in-Some.key.now, c.in-Some.value.now) in
    let left = c.next.new.self in
    let all : c.args.members.now.entries ≡ done ++ e ∷ left = split ∙ ap (λ es. done ++ es) c.in-Some.ensures.steps in
    let last = put_last done e left (subst (λ es. IsStrictlySortedBy string_cmp (keys_of es)) all c.into_iter-key-iterator.ensures.into_iter_gives.5) in
    let named : string_bytes c.in_ok-name.name ≡ string_bytes e.0 = c.in_ok-name.ensures.cases in (
      done ++ e ∷ [],
      all ∙ sym (append_assoc done (e ∷ []) left),
      ap json_members_view c.in_ok-insert.ensures.entries ∙ members_view-insert_entry l.object.entries c.in_ok-name.name c.in_ok-json_value.field-0 ∙ rw (named, c.in_ok-json_value.ensures, so_far) last,
    )
