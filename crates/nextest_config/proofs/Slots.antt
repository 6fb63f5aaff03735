-- The slots of a board, and the verdict of the sources that they hold.
use Rattle.std.proofs.Common.{rules, ◌≡◌, ℕ, zero, suc, ◌+◌, List, [], ◌∷◌, ◌++◌, length, get_or, set, replicate, map, Bool, Option, Some, None, option_map, refl, sym, ap, ap₂, subst, ◌∙◌, arith}
use Rattle.std.proofs.Math.Numerals.{add-one}
use Rattle.std.proofs.lemmas.List.{append_assoc, get_or_at, length_push}
use Rattle.semver.specs.Identifiers.{parts_of}
use Rattle.semver.specs.Parse.{Parts}
use Rattle.semver.specs.declared.Version.{Version}
use Rattle.nextest_config.specs.Board.RolePair.{later_asked, later_pair, no_pair, pair_in, slot_version, version_at}
use Rattle.nextest_config.specs.Board.Slots.{AreHeld, ask_of_versions, board_list, BoardState, IsFrom, IsHeld, kept_in, roles_in, slot_of, slots_of}
use Rattle.nextest_config.specs.Merge.{total}
use Rattle.nextest_config.specs.NextestVersion.Verdict.{Verdict}
use Rattle.nextest_config.specs.NextestVersion.{place_of, plain, Versions, versions, versions_of, alone, IsSelected, join_kept, join_roles, Kept, no_roles, not_met, role_from, Roles, roles_from, SourceAsk, StandsIn, verdict}
use Rattle.nextest_config.specs.declared.board.role_pair.SlotVersion.{SlotVersion}
use Rattle.nextest_config.specs.declared.board.role_pair.RolePair.{RolePair}
use Rattle.nextest_config.specs.declared.nextest_version.nextest_version_deserialize.NextestVersionDeserialize.{NextestVersionDeserialize}
use Rattle.nextest_config.specs.declared.nextest_version.source.ConfigSource.{ConfigSource}
use Rattle.nextest_config.proofs.OneVerdict.{AsksPlain, IsPlainVersion}
use Rattle.nextest_config.proofs.Selection.{selects_by}
use Rattle.nextest_config.proofs.Standing.{stands_alone, stands_in_both}

-- ---- a slot that is changed

-- what the slots hold is as long as the sources and as the pairs
held_long : (from : ℕ) (sources : List (Option ConfigSource)) (pairs : List RolePair) → AreHeld from sources pairs → (length sources ≡ length (slots_of sources pairs)) × (length pairs ≡ length (slots_of sources pairs))
held_long from [] [] held = (refl, refl)
held_long from [] (pair ∷ pairs) held = absurd held
held_long from (source ∷ sources) [] held = absurd held
held_long from (source ∷ sources) (pair ∷ pairs) held =
    let rest = held_long (suc from) sources pairs held.1 in
    (ap suc rest.0, ap suc rest.1)

-- the same of a board
pub board_long : (sources : List (Option ConfigSource)) (pairs : List RolePair) (board : BoardState) (selections : ℕ) → AreHeld 0 sources pairs → record { slots = slots_of sources pairs; selections = selections } ≡ board
    → (length sources ≡ length board.slots) × (length pairs ≡ length board.slots)
board_long sources pairs board selections held is =
    let seen = ap (λ (state : BoardState). length state.slots) is in
    let long = held_long 0 sources pairs held in
    (long.0 ∙ seen, long.1 ∙ seen)

pub held_set : (from k : ℕ) (sources : List (Option ConfigSource)) (pairs : List RolePair) (source : Option ConfigSource) (pair : RolePair) → AreHeld from sources pairs → IsHeld (from + k) source pair
    → AreHeld from (set sources k source) (set pairs k pair) × (slots_of (set sources k source) (set pairs k pair) ≡ set (slots_of sources pairs) k (slot_of source pair))
held_set from k [] [] source pair held one = (held, refl)
held_set from k [] (p ∷ pairs) source pair held one = absurd held
held_set from k (s ∷ sources) [] source pair held one = absurd held
held_set from zero (s ∷ sources) (p ∷ pairs) source pair held one = ((subst (λ n. IsHeld n source pair) (omega arith) one, held.1), refl)
held_set from (suc k) (s ∷ sources) (p ∷ pairs) source pair held one =
    let rest = held_set (suc from) k sources pairs source pair held.1 (subst (λ n. IsHeld n source pair) (omega arith) one) in
    ((held.0, rest.0), ap (λ slots. slot_of s p ∷ slots) rest.1)

pub none_held : (from n : ℕ) → AreHeld from (replicate n None) (replicate n no_pair)
none_held from zero = tt
none_held from (suc n) = (refl, none_held (suc from) n)

pub no_slots : (n : ℕ) → slots_of (replicate n None) (replicate n no_pair) ≡ replicate n None
no_slots zero = refl
no_slots (suc n) = ap (λ slots. None ∷ slots) (no_slots n)

-- ---- a source that is put into a slot

same_version : (slot : ℕ) (asked : Option Version) → IsPlainVersion (option_map parts_of asked) → option_map version_at (option_map (slot_version slot) asked) ≡ option_map parts_of asked
same_version slot asked plain = search rules

-- the slot keeps the versions that are asked
pub same_versions : (slot : ℕ) (asked : NextestVersionDeserialize) → AsksPlain (versions_of asked) → versions (option_map version_at (pair_in slot asked).required) (option_map version_at (pair_in slot asked).recommended) ≡ versions_of asked
same_versions slot asked are = ap₂ versions (same_version slot asked.required are.of_required) (same_version slot asked.recommended are.of_recommended)

-- ---- what is chosen of all slots

module _ (whole : List (Option ConfigSource)) where
  -- this is kept of what is asked
  abbrev IsKept : Option SlotVersion → Option Kept → Type 0
  IsKept None kept = kept ≡ None
  IsKept (Some asked) kept = (one : Kept) × (kept ≡ Some one) × (one.version ≡ version_at asked) × (kept_in whole (Some asked) ≡ Some one)

  kept_is : (asked : Option SlotVersion) (kept : Option Kept) → IsKept asked kept → kept_in whole asked ≡ kept
  kept_is asked kept is = search rules

  joined : (a b : Option SlotVersion) (k l : Option Kept) → IsKept a k → IsKept b l → IsKept (later_asked a b) (join_kept k l)
  joined a b k l h m = search rules

  from_slot : (source : ConfigSource) (slot : ℕ) (asked : Option SlotVersion) → get_or whole slot None ≡ Some source → IsFrom slot asked → IsKept asked (role_from (place_of source) (option_map version_at asked))
  from_slot source slot asked here is = search rules

  record AllKept (pair : RolePair) (asked : List SourceAsk) : Type 0 where
    roles : Roles
    required : IsKept pair.required roles.required
    recommended : IsKept pair.recommended roles.recommended
    stands_required : StandsIn (λ ask. ask.versions.required) asked roles.required
    stands_recommended : StandsIn (λ ask. ask.versions.recommended) asked roles.recommended

  one_more : (before : List (Option ConfigSource)) (source : Option ConfigSource) → length (before ++ (source ∷ [])) ≡ suc (length before)
  one_more before source = length_push before source ∙ add-one (length before)

  all_kept : (before sources : List (Option ConfigSource)) (pairs : List RolePair) → whole ≡ before ++ sources → AreHeld (length before) sources pairs
      → AllKept (total later_pair no_pair pairs) (board_list (slots_of sources pairs))
  all_kept before [] [] parts held = record { roles = no_roles; required = refl; recommended = refl; stands_required = tt; stands_recommended = tt }
  all_kept before [] (pair ∷ pairs) parts held = absurd held
  all_kept before (source ∷ sources) [] parts held = absurd held
  all_kept before (None ∷ sources) (pair ∷ pairs) parts held =
      let rest = all_kept (before ++ (None ∷ [])) sources pairs (parts ∙ sym (append_assoc before (None ∷ []) sources)) (subst (λ n. AreHeld n sources pairs) (sym (one_more before None)) held.1) in
      subst (λ (first : RolePair). AllKept (later_pair first (total later_pair no_pair pairs)) (board_list (slots_of sources pairs))) (sym held.0) rest
  all_kept before (Some source ∷ sources) (pair ∷ pairs) parts held =
      let rest = all_kept (before ++ (Some source ∷ [])) sources pairs (parts ∙ sym (append_assoc before (Some source ∷ []) sources)) (subst (λ n. AreHeld n sources pairs) (sym (one_more before (Some source))) held.1) in
      let here : get_or whole (length before) None ≡ Some source = ap (λ xs. get_or xs (length before) None) parts ∙ get_or_at before (Some source) sources None (length before) refl in
      let asks : Versions = versions (option_map version_at pair.required) (option_map version_at pair.recommended) in
      let one : SourceAsk = ask_of_versions (place_of source) asks in
      let kept : Roles = roles_from (place_of source) asks in
      record {
        roles = join_roles kept rest.roles;
        required = joined pair.required (total later_pair no_pair pairs).required kept.required rest.roles.required (from_slot source (length before) pair.required here held.0.0) rest.required;
        recommended = joined pair.recommended (total later_pair no_pair pairs).recommended kept.recommended rest.roles.recommended (from_slot source (length before) pair.recommended here held.0.1) rest.recommended;
        stands_required = stands_in_both (λ ask. ask.versions.required) (one ∷ []) (board_list (slots_of sources pairs)) kept.required rest.roles.required (stands_alone (λ ask. ask.versions.required) one asks.required refl) rest.stands_required;
        stands_recommended = stands_in_both (λ ask. ask.versions.recommended) (one ∷ []) (board_list (slots_of sources pairs)) kept.recommended rest.roles.recommended (stands_alone (λ ask. ask.versions.recommended) one asks.recommended refl) rest.stands_recommended;
      }

  -- the verdict of what is chosen is selected from those of the sources
  pub board_selects : (pairs : List RolePair) → AreHeld 0 whole pairs → (chosen : RolePair) → chosen ≡ total later_pair no_pair pairs → (current : Parts) (overridden : Bool)
      → IsSelected (map (alone current overridden) (board_list (slots_of whole pairs))) (verdict (roles_in whole chosen) current overridden)
  board_selects pairs held chosen is current overridden =
      let kept = all_kept [] whole pairs refl held in
      let roles : Roles = kept.roles in
      let selected = selects_by (board_list (slots_of whole pairs)) roles current overridden (not_met roles.required current) (not_met roles.recommended current) kept.stands_required kept.stands_recommended refl refl in
      rw (is, kept_is (total later_pair no_pair pairs).required roles.required kept.required, kept_is (total later_pair no_pair pairs).recommended roles.recommended kept.recommended) selected

-- ---- what is told

-- the same slots and the same verdict
pub selected_as : (before after : List (Option SourceAsk)) (v w : Verdict) (current : Parts) (overridden : Bool) → before ≡ after → v ≡ w → IsSelected (map (alone current overridden) (board_list before)) v
    → IsSelected (map (alone current overridden) (board_list after)) w
selected_as before after v w current overridden same told selected = search rules
