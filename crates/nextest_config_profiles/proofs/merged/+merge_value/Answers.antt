use Rattle.std.proofs.Common.{◌≡◌, false, ◌∷◌, ◌++◌, [], ap, append-nil, append_assoc, option_map, string_bytes, subst, sym, ◌∙◌}
use Rattle.std.specs.List.Sorted.{IsStrictlySortedBy}
use Rattle.std.specs.Map.{keys_of}
use Rattle.std.specs.String.{string_cmp}
use Rattle.toml.proofs.Views.{Entry, view-lookup}
use Rattle.toml.specs.Data.{get_member}
use Rattle.toml.specs.View.{members_view, table_view, view}
use Rattle.nextest_config_profiles.specs.Merging.{IsOver}
use Rattle.nextest_config_profiles.proofs.Merging.{one_more, tables_over}
use Rattle.nextest_config_profiles.proofs.Members.{is_key, other_removed}
use Rattle.nextest_config_profiles.proofs.merged.+merge_value.Goals as goal

pub merge_members-loop-key-preserved : goal.merge_members-loop-key-preserved
merge_members-loop-key-preserved t c =
    let l = c.loop-key in
    let (done, split, each) = l.invariant in
    let e : Entry = (c.in-Some.key.now, c.in-Some.value.now) in
    let left = c.next.new.self in
    let all : c.args.members.now.entries ≡ done ++ e ∷ left = split ∙ ap (λ es. done ++ es) c.in-Some.ensures.steps in
    let sorted : IsStrictlySortedBy string_cmp (keys_of (done ++ e ∷ left)) = subst (λ es. IsStrictlySortedBy string_cmp (keys_of es)) all c.into_iter-key-iterator.ensures.into_iter_gives.5 in
    let named : c.as_str.result.now ≡ string_bytes e.0 = c.as_str.ensures.value in
    let here : option_map view c.remove.result ≡ get_member (string_bytes e.0) (table_view l.below) =
    ap (option_map view) c.remove.ensures.value ∙ view-lookup c.as_str.result.now l.below.entries ∙ ap (λ k. get_member k (table_view l.below)) named in (
      done ++ e ∷ [],
      all ∙ sym (append_assoc done (e ∷ []) left),
      one_more done e left sorted (table_view c.args.below.now) (table_view l.below) (table_view c.remove.new.self) (table_view c.put.new.table)
          (view c.in_ok-merged.merged) each (rw here at c.in_ok-merged.ensures)
          (λ key apart. ap (λ entries. get_member key (members_view entries)) c.remove.ensures.entries ∙ other_removed key c.as_str.result.now (subst (λ k. is_key key k ≡ false) (sym named) apart) l.below.entries)
          c.in_ok-put.ensures,
    )

pub merge_members-returns : goal.merge_members-returns
merge_members-returns t c =
    let (done, split, each) = c.loop-key.invariant in
    let all : c.args.members.now.entries ≡ done = split ∙ ap (λ es. done ++ es) c.in-None.ensures.steps.0 ∙ append-nil done in
    tables_over (table_view c.args.below.now) (table_view c.args.members.now) (table_view c.loop-key.below)
    (λ key. subst (λ es. IsOver (get_member key (table_view c.args.below.now)) (get_member key (members_view es)) (get_member key (table_view c.loop-key.below))) (sym all) (each key))
