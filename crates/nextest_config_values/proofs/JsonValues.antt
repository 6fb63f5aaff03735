-- Values of JSON beside the values of TOML that they stand for.
use Rattle.std.proofs.Common.{◌≡◌, ◌∙◌, List, [], ◌∷◌, ◌++◌, Less, Greater, map, string_bytes, refl, ap}
use Rattle.std.proofs.lemmas.Cmp.{nat_list_cmp_total}
use Rattle.std.specs.Cmp.Lexicographic.{slice_cmp}
use Rattle.std.specs.List.{AllByRecursion}
use Rattle.std.specs.List.Sorted.{IsStrictlySortedBy}
use Rattle.std.specs.Map.{keys_of}
use Rattle.std.specs.Ordering.{nat_cmp, ordering_reverse}
use Rattle.std.specs.String.{string_cmp}
use Rattle.serde_json.specs.Data as json
use Rattle.serde_json.specs.View as json_view
use Rattle.toml.proofs.Views.{Entry}
use Rattle.toml.specs.View.{items_view, members_view, view}
use Rattle.toml.specs.declared.value.Value.{Value}
use Rattle.nextest_config_values.specs.Literal.Json.{json_data, json_items, json_members}

-- values that stand for these, one by one
pub items_in_json : (values : List Value) → json_view.items_of (map (λ v. json_data (view v)) values) ≡ json_items (items_view values)
items_in_json [] = refl
items_in_json (value ∷ values) = ap (json.item (json_data (view value))) (items_in_json values)

below_middle : (first : Entry) (entries : List Entry) (e : Entry) (more : List Entry)
    → AllByRecursion (λ y. string_cmp first.0 y ≡ Less) (keys_of (entries ++ e ∷ more)) → string_cmp first.0 e.0 ≡ Less
below_middle first [] e more h = h.0
below_middle first (entry ∷ entries) e more h = below_middle first entries e more h.1

-- a member whose key is above those before it goes last
pub put_last : (done : List Entry) (e : Entry) (more : List Entry) → IsStrictlySortedBy string_cmp (keys_of (done ++ e ∷ more))
    → json.put (string_bytes e.0) (json_data (view e.1)) (json_members (members_view done)) ≡ json_members (members_view (done ++ e ∷ []))
unfolding IsStrictlySortedBy
put_last [] e more h = refl
put_last (first ∷ done) e more h =
    let above : slice_cmp nat_cmp (string_bytes e.0) (string_bytes first.0) ≡ Greater =
    nat_list_cmp_total.antisymm (string_bytes e.0) (string_bytes first.0) ∙ ap ordering_reverse (below_middle first done e more h.0) in
    rw above (ap (json.member (string_bytes first.0) (json_data (view first.1))) (put_last done e more h.1))
