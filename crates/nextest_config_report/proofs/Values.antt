-- Values of JSON that are shown.
use Rattle.std.proofs.Common.{◌≡◌, ◌∙◌, ℕ, List, [], ◌∷◌, ◌++◌, codes, map, Option, Some, None, Vec, Global, false, refl, sym, ap}
use Rattle.std.proofs.lemmas.Simd.{map-map}
use Rattle.serde_json.proofs.Views.{view-Array}
use Rattle.serde_json.specs.Data.{array, Data, string}
use Rattle.serde_json.specs.View.{items_of, view}
use Rattle.serde_json.specs.Written.{compact_text, has_float}
use Rattle.serde_json.specs.declared.value.Value.{Array, Value}
use Rattle.nextest_config.specs.NextestVersion.{Configuration, Kept}
use Rattle.nextest_config_report.specs.Show.{array_of, feature_data, kept_data, place_data, show_data, show_json, unknown_data}

-- an array of values that were pushed for what was yielded, once all was
pub array_view : {A X : Type 0} (stands_for : X → Data) (shows : A → X) (yielded : List A) (all : List X) (values : Vec Value Global) → map view values.items ≡ map (λ item. stands_for (shows item)) yielded → map shows yielded ≡ all → view (Array values) ≡ array_of stands_for all
array_view stands_for shows yielded all values pushed ended =
    let items = pushed ∙ sym (map-map stands_for shows yielded) ∙ ap (map stands_for) ended in
    view-Array values ∙ ap (λ items. array (items_of items)) items

no_float_in : {X : Type 0} (stands_for : X → Data) → ((x : X) → has_float (stands_for x) ≡ false) → (xs : List X) → has_float (array_of stands_for xs) ≡ false
no_float_in stands_for each [] = refl
no_float_in stands_for each (x ∷ xs) = rw (each x) (no_float_in stands_for each xs)

no_float_kept : (kept : Option Kept) → has_float (kept_data kept) ≡ false
no_float_kept (Some kept) = refl
no_float_kept None = refl

no_float_shown : (configuration : Configuration) (profiles : List (List ℕ)) → has_float (show_data configuration profiles) ≡ false
no_float_shown configuration profiles =
    let names = no_float_in string (λ name. refl) in
    rw (
      no_float_in place_data (λ place. refl) configuration.experimental.arrays,
      no_float_in feature_data (λ feature. refl) configuration.experimental.known,
      names profiles,
      no_float_kept configuration.roles.recommended,
      no_float_kept configuration.roles.required,
      no_float_in unknown_data (λ unknown. rw (names unknown.names) refl) configuration.experimental.unknown,
    )
    refl

-- what is shown has no float, so its text is the compact one
pub line_shown : (configuration : Configuration) (profiles : List (List ℕ)) (value : Data) (text line : List ℕ) → value ≡ show_data configuration profiles → (has_float value ≡ false → text ≡ compact_text value) → line ≡ text ++ codes "\n" → line ≡ show_json configuration profiles
line_shown configuration profiles value text line is prints ended =
    let printed = prints (ap has_float is ∙ no_float_shown configuration profiles) in
    ended ∙ ap (λ front. front ++ codes "\n") (printed ∙ ap compact_text is)
