-- Numbered items, with one item more.
use Rattle.std.proofs.Common.{◌≡◌, ◌+◌, ◌∙◌, ℕ, zero, suc, List, [], ◌∷◌, ◌++◌, ap, arith, length, refl}
use Rattle.toml.proofs.Views.{items_view-push}
use Rattle.toml.specs.Data.{Data, item, Items, no_items, push_item}
use Rattle.toml.specs.View.{items_view, view}
use Rattle.toml.specs.declared.value.Value.{Value}
use Rattle.nextest_config_profiles.specs.Report.Elements.{ElementValue, numbered}

abbrev count : Items → ℕ
count no_items = zero
count (item value rest) = suc (count rest)

count_view : (values : List Value) → count (items_view values) ≡ length values
count_view [] = refl
count_view (value ∷ values) = ap suc (count_view values)

abbrev pub element : List ℕ → ℕ → ℕ → Data → ElementValue
element profile layer position value = record { profile = profile; layer = layer; position = position; value = value }

start_itself : (start : ℕ) → start ≡ start + zero
start_itself start = omega arith

numbered_push : (profile : List ℕ) (layer start : ℕ) (items : Items) (value : Data)
    → numbered profile layer start (push_item items value) ≡ numbered profile layer start items ++ (element profile layer (start + count items) value ∷ [])
numbered_push profile layer start no_items value = ap (λ position. element profile layer position value ∷ []) (start_itself start)
numbered_push profile layer start (item first rest) value =
    ap (λ more. element profile layer start first ∷ more)
    (numbered_push profile layer (suc start) rest value
    ∙ ap (λ position. numbered profile layer (suc start) rest ++ (element profile layer position value ∷ [])) (omega arith))

-- one value more of a list
pub numbered_more : (profile : List ℕ) (layer position : ℕ) (values : List Value) (value : Value) → length values ≡ position
    → numbered profile layer 0 (items_view (values ++ (value ∷ []))) ≡ numbered profile layer 0 (items_view values) ++ (element profile layer position (view value) ∷ [])
numbered_more profile layer position values value long =
    ap (numbered profile layer 0) (items_view-push values value) ∙ numbered_push profile layer 0 (items_view values) (view value)
    ∙ ap (λ at. numbered profile layer 0 (items_view values) ++ (element profile layer at (view value) ∷ [])) (omega (arith, count_view values, long))
