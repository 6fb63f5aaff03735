-- What layers come to, one more layer and all of them.
use Rattle.std.proofs.Common.{◌≡◌, ℕ, ◌≤◌, ◌<◌, ◌+◌, arith, get_or, length, take, List, [], ◌∷◌, ◌++◌, Option, Some, None, Bor, MatchOption, ap, append_assoc, map, option_map, subst, sym, ◌∙◌}
use Rattle.std.proofs.lemmas.List.{length-map, length-take, map_push, take_all, take_more}
use Rattle.toml.specs.Data.{Data}
use Rattle.toml.specs.View.{view}
use Rattle.toml.specs.declared.value.Value.{Value}
use Rattle.nextest_config_profiles.specs.Merged.{HasNoValue, IsMergedOver, Layers}
use Rattle.nextest_config_profiles.specs.Merging.{over, seen_at}
use Rattle.nextest_config_profiles.specs.Reach.{AreReached, lent, lent_files, said_below}
use Rattle.nextest_config_profiles.specs.Said.{Path, Said, said_at, silent}
use Rattle.nextest_config_profiles.specs.declared.reach.Reach.{Reach}
use Rattle.nextest_config_profiles.proofs.Selection.{all_over, all_over_both, IsSeenLeaf, leaf_seen, leaf_selected, none_seen, seen_leaf, selected_leaf}

pub says_more : (says : Option Data → Said) (files : List (Option (Bor Value))) (file : Option (Bor Value))
    → map says (lent_files (files ++ file ∷ [])) ≡ map says (lent_files files) ++ says (lent file) ∷ []
says_more says files file = ap (map says) (map_push lent files file) ∙ map_push says (lent_files files) (lent file)

pub says_long : (says : Option Data → Said) (files : List (Option (Bor Value))) (i : ℕ) → i ≤ length files
    → length (map says (lent_files (take i files))) ≡ i
says_long says files i within =
    length-map _ _ ∙ length-map _ _ ∙ length-take i files ∙ omega (arith, within)

pub merged_result : (layers : Layers) (path : Path) (merged : Option Value)
    → ((below : Path) → seen_at below (option_map view merged) ≡ all_over silent (map (said_at (path ++ below)) layers))
    → MatchOption merged (HasNoValue layers path) (λ value. IsMergedOver layers path (view value))
merged_result layers path None each = λ below position value leaf.
    none_seen value (subst (λ said. IsSeenLeaf said value) (sym (each below)) (selected_leaf (map (said_at (path ++ below)) layers) position value leaf))
merged_result layers path (Some whole) each = λ below value. (
  λ has. leaf_selected (map (said_at (path ++ below)) layers) value (subst (λ said. IsSeenLeaf said value) (each below) (seen_leaf (said_at below (Some (view whole))) value has)),
  λ found. leaf_seen (said_at below (Some (view whole))) value (subst (λ said. IsSeenLeaf said value) (sym (each below)) (selected_leaf (map (said_at (path ++ below)) layers) found.0 value found.1)),
)

-- ---- layers in which a path was followed

module _ (layers : List Reach) (path : Path) where
  -- what the first so many layers come to at a path below this one
  abbrev pub over_first : ℕ → Path → Said
  over_first i below = all_over silent (map (said_below (path ++ below)) (take i layers))

  pub over_next : (i : ℕ) (layer : Reach) → i < length layers → layer ≡ get_or layers i layer → (below : Path)
      → over_first (i + 1) below ≡ over (over_first i below) (said_below (path ++ below) layer)
  over_next i layer within is below =
      let says = said_below (path ++ below) in
      rw (take_more layers i layer within, ← is)
      (ap (all_over silent) (map_push says (take i layers) layer) ∙ all_over_both silent (map says (take i layers)) (says layer ∷ []))

  pub reached_result : (i : ℕ) → length layers ≤ i → (all : Layers) (above : Path) → AreReached all above layers → (merged : Option Value)
      → ((below : Path) → seen_at below (option_map view merged) ≡ over_first i below)
      → MatchOption merged (HasNoValue all (above ++ path)) (λ value. IsMergedOver all (above ++ path) (view value))
  reached_result i all_passed all above reached merged each = merged_result all (above ++ path) merged (λ below.
      each below
      ∙ ap (λ layers. all_over silent (map (said_below (path ++ below)) layers)) (take_all i layers all_passed)
      ∙ ap (all_over silent) (reached (path ++ below) ∙ ap (λ whole. map (said_at whole) all) (sym (append_assoc above path below))))
