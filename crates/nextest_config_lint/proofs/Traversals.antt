-- Who was shown settings, and then more.
use Rattle.std.proofs.Common.{◌≡◌, ◌+◌, ◌<◌, ℕ, List, [], ◌∷◌, ◌++◌, append_assoc, append-nil, drop, flat_map, get_or, length, refl}
use Rattle.std.proofs.Math.Numerals.{add-one}
use Rattle.std.proofs.lemmas.List.{drop_more}
use Rattle.std.proofs.lemmas.List.Concat.{flat_map-append}
use Rattle.toml.specs.Data.{Members}
use Rattle.toml.specs.View.{items_view, view}
use Rattle.toml.specs.declared.value.Value.{Value}
use Rattle.toml_spans.specs.Step.{index, PathStep}
use Rattle.nextest_config_elements.proofs.Levels.{first_field}
use Rattle.nextest_config_elements.specs.Fields.{field, fields_view, parts_of, rule_of}
use Rattle.nextest_config_elements.specs.declared.field.FaultSeverity.{FaultSeverity}
use Rattle.nextest_config_elements.specs.declared.field.Field.{Field, out-Field}
use Rattle.nextest_config_lint.specs.Settings.{at_items, Collecting, of_field, seen_field, settings_of_fields, SettingView}
use Rattle.nextest_config_lint.specs.Traversal.{Visits}

-- nothing is shown
pub visits_nothing : {V : Type 0} (has_visited : V → List SettingView → V → Type 0) (now : V) → Visits has_visited [] now now
visits_nothing has_visited now start before shown = rw (append-nil before) shown

-- some, and then others
pub visits_both : {V : Type 0} (has_visited : V → List SettingView → V → Type 0) (xs ys : List SettingView) (old between new : V)
    → Visits has_visited xs old between → Visits has_visited ys between new → Visits has_visited (xs ++ ys) old new
visits_both has_visited xs ys old between new first later start before shown =
    rw (← append_assoc before xs ys) (later start (before ++ xs) (first start before shown))

-- what is shown of one element more
pub visits_next : {X V : Type 0} (has_visited : V → List SettingView → V → Type 0) (shown_of : X → List SettingView) (xs : List X) (x : X) (old between new : V)
    → Visits has_visited (flat_map shown_of xs) old between → Visits has_visited (shown_of x) between new → Visits has_visited (flat_map shown_of (xs ++ (x ∷ []))) old new
visits_next has_visited shown_of xs x old between new first later =
    rw (flat_map-append shown_of xs (x ∷ []), append-nil (shown_of x)) (visits_both has_visited (flat_map shown_of xs) (shown_of x) old between new first later)

-- who is shown what is left, too, was shown all
abbrev pub IsOnWay : {V : Type 0} → (V → List SettingView → V → Type 0) → List SettingView → List SettingView → V → V → Type 0
IsOnWay {V = V} has_visited all left start now = (after : V) → Visits has_visited left now after → Visits has_visited all start after

-- what is shown next is no longer left
pub goes_on : {V : Type 0} (has_visited : V → List SettingView → V → Type 0) (all xs ys : List SettingView) (start now next : V)
    → IsOnWay has_visited all (xs ++ ys) start now → Visits has_visited xs now next → IsOnWay has_visited all ys start next
goes_on has_visited all xs ys start now next on first after later = on after (visits_both has_visited xs ys now next after first later)

-- nothing is left
pub ends : {V : Type 0} (has_visited : V → List SettingView → V → Type 0) (all : List SettingView) (start now : V)
    → IsOnWay has_visited all [] start now → Visits has_visited all start now
ends has_visited all start now on = on now (visits_nothing has_visited now)

-- ---- the elements of an array

-- what comes of the elements from one on
pub items_from : (collecting : Collecting) (path : List PathStep) (items : List Value) (i : ℕ) (item : Value) → i < length items → item ≡ get_or items i item
    → at_items collecting path i (items_view (drop i items)) ≡ collecting (path ++ (index i ∷ [])) (view item) ++ at_items collecting path (i + 1) (items_view (drop (i + 1) items))
items_from collecting path items i item within here = rw (drop_more items i item within, ← here, add-one i) refl

-- ---- the fields of a table

-- the first of those that are left is shown
pub goes_on_fields : {V : Type 0} (has_visited : V → List SettingView → V → Type 0) (all : List SettingView) (severity : FaultSeverity) (path : List PathStep) (members : Members)
    (known : List Field) (i : ℕ) (default : Field) (start now next : V) → i < length known
    → IsOnWay has_visited all (settings_of_fields (fields_view (drop i known)) severity path members) start now
    → Visits has_visited (of_field severity (seen_field (get_or known i default)) path members) now next
    → IsOnWay has_visited all (settings_of_fields (fields_view (drop (i + 1) known)) severity path members) start next
goes_on_fields has_visited all severity path members known i default start now next within on shown =
    let left : fields_view (drop i known) ≡ field (rule_of (out-Field (get_or known i default))) (parts_of (out-Field (get_or known i default)).parts) (fields_view (drop (i + 1) known)) =
    rw (drop_more known i default within) (first_field (get_or known i default) (drop (i + 1) known)) in
    goes_on has_visited all (of_field severity (seen_field (get_or known i default)) path members) (settings_of_fields (fields_view (drop (i + 1) known)) severity path members) start now next
    (rw left at on) shown
