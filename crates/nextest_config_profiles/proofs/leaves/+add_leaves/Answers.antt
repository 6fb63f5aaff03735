use Rattle.std.proofs.Common.{◌≡◌, ◌∷◌, ◌++◌, [], ap, append_assoc, map, rules, string_bytes, subst, sym, ◌∙◌}
use Rattle.std.specs.List.Sorted.{IsStrictlySortedBy}
use Rattle.std.specs.Map.{keys_of}
use Rattle.std.specs.String.{string_cmp}
use Rattle.toml.proofs.Views.{Entry, view-Table}
use Rattle.nextest_config_profiles.proofs.Listing.{more_leaves, table_leaves}
use Rattle.nextest_config_profiles.proofs.leaves.+add_leaves.Goals as goal

pub add_leaves-returns-in_ok-add_members-in-Table : goal.add_leaves-returns-in_ok-add_members-in-Table
add_leaves-returns-in_ok-add_members-in-Table t c =
    rw (c.in-Table.is, view-Table)
    (table_leaves (map string_bytes c.args.keys.items) c.in-Table.members.entries _ _ (λ none. search rules) (rw c.as_slice.ensures.value at c.in_ok-add_members-in-Table.ensures))

pub add_members-loop-key-preserved : goal.add_members-loop-key-preserved
add_members-loop-key-preserved t c =
    let l = c.loop-key in
    let (done, split, adds) = l.invariant in
    let e : Entry = (c.in-Some.key.now, c.in-Some.value.now) in
    let left = c.next.new.self in
    let all : c.args.members.now.entries ≡ done ++ e ∷ left = split ∙ ap (λ es. done ++ es) c.in-Some.ensures.steps in
    let sorted : IsStrictlySortedBy string_cmp (keys_of (done ++ e ∷ left)) = subst (λ es. IsStrictlySortedBy string_cmp (keys_of es)) all c.into_iter-key-iterator.ensures.into_iter_gives.5 in (
      done ++ e ∷ [],
      all ∙ sym (append_assoc done (e ∷ []) left),
      more_leaves (map string_bytes c.args.keys.now) done e left sorted _ _ _ adds (rw c.in_ok-keys.ensures at c.in_ok-add_leaves.ensures),
    )
