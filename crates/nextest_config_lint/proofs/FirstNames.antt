-- The first element of an array that is a name.
use Rattle.std.proofs.Common.{◌≡◌, ℕ, ◌<◌, ◌≤◌, ◌+◌, inl, inr, length, List, None, Some, option_and_then, arith, ap, subst}
use Rattle.std.proofs.lemmas.Bool.{cases_lt}
use Rattle.std.proofs.lemmas.Option.{none-some, same_Some}
use Rattle.toml.proofs.Views.{get_item_past}
use Rattle.toml.specs.Data.{array, as_array, as_str, Data, get_item, Items}
use Rattle.toml.specs.View.{items_view}
use Rattle.toml.specs.declared.value.Value.{Value}
use Rattle.nextest_config_lint.specs.Features.{IsFirstAt, IsNameAt}

-- none of the elements before this index is the name
abbrev pub NoneBefore : Items → List ℕ → ℕ → Type 0
NoneBefore items name count = (earlier : ℕ) → earlier < count → IsNameAt (array items) name earlier → ⊥

pub none_before_first : (items : Items) (name : List ℕ) → NoneBefore items name 0
none_before_first items name earlier less is = omega (arith, less)

-- an element that is the name
pub is_at : (items : Items) (name : List ℕ) (index : ℕ) (value : Data) → get_item index items ≡ Some value → as_str value ≡ Some name → IsNameAt (array items) name index
is_at items name index value here is = rw here is

-- one that isn't
pub none_at : (items : Items) (name : List ℕ) (index : ℕ) (value : Data) → get_item index items ≡ Some value → (as_str value ≡ Some name → ⊥) → NoneBefore items name index
    → NoneBefore items name (index + 1)
none_at items name index value here other none earlier less is = elim (cases_lt earlier index) [
  | inl before ↦ none earlier before is
  | inr after ↦
      let same : earlier ≡ index = omega (arith, after, less) in
      let at : option_and_then as_str (get_item index items) ≡ Some name = subst (λ n. option_and_then as_str (get_item n items) ≡ Some name) same is in
      other (rw here at at)
]

-- none of all
pub none_at_all : (values : List Value) (name : List ℕ) (count : ℕ) → length values ≤ count → NoneBefore (items_view values) name count
    → IsFirstAt (array (items_view values)) name None
none_at_all values name count past none place is = elim (cases_lt place count) [
  | inl before ↦ none place before is
  | inr after ↦
      let at : option_and_then as_str (get_item place (items_view values)) ≡ Some name = is in
      none-some name (rw (← get_item_past values place (omega (arith, past, after))) at at)
]

-- ---- of a value

pub of_array : (value : Data) (items : Items) → as_array value ≡ Some items → value ≡ array items
of_array (array held) items is = ap array (same_Some held items is)
of_array value items is = absurd (none-some items is)
