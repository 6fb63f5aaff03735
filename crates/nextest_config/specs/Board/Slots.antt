-- The slots of a board, and the list of sources that they hold.
use Rattle.std.specs.Prelude.{◌≡◌, ℕ, suc, ◌<◌, false, List, [], ◌∷◌, length, get_or, set, Option, Some, None, option_map}
use Rattle.nextest_config.specs.Choice.Halvings.{halvings}
use Rattle.nextest_config.specs.Board.RolePair.{no_pair, version_at}
use Rattle.nextest_config.specs.NextestVersion.ExperimentalDeserialize.{no_features}
use Rattle.nextest_config.specs.NextestVersion.NextestVersionDeserialize.{Versions, versions}
use Rattle.nextest_config.specs.NextestVersion.KeptVersions.{Kept, Roles}
use Rattle.nextest_config.specs.NextestVersion.Source.{SourcePlace, Source, place_of}
use Rattle.nextest_config.specs.NextestVersion.VersionOnly.{IsRead, SourceAsk}
use Rattle.nextest_config.specs.NextestVersion.VersionOnlyDeserialize.{Ask}
use Rattle.nextest_config.specs.declared.board.role_pair.SlotVersion.{SlotVersion}
use Rattle.nextest_config.specs.declared.board.role_pair.RolePair.{RolePair}
use Rattle.nextest_config.specs.declared.nextest_version.source.ConfigSource.{ConfigSource}

-- the versions that a source at this place asks; a board keeps no features
abbrev pub ask_of_versions : SourcePlace → Versions → SourceAsk
ask_of_versions place versions =
    record {
      place = place;
      ask = record { versions = versions; features = no_features; array = false };
    }

-- what the slots hold, and how many choices the last change took
pub record BoardState : Type 0 where
  pub slots : List (Option SourceAsk)
  pub selections : ℕ

-- the sources that the slots hold, in the order of the slots
abbrev pub board_list : List (Option SourceAsk) → List SourceAsk
board_list [] = []
board_list (None ∷ slots) = board_list slots
board_list (Some asked ∷ slots) = asked ∷ board_list slots

-- what a slot with this source and this pair holds
abbrev pub slot_of : Option ConfigSource → RolePair → Option SourceAsk
slot_of source pair =
    option_map (λ s. ask_of_versions (place_of s)
    (versions (option_map version_at pair.required) (option_map version_at pair.recommended)))
    source

-- what the slots with these sources and these pairs hold, one each
abbrev pub slots_of : List (Option ConfigSource) → List RolePair → List (Option SourceAsk)
slots_of [] pairs = []
slots_of (source ∷ sources) [] = []
slots_of (source ∷ sources) (pair ∷ pairs) = slot_of source pair ∷ slots_of sources pairs

-- what is asked, if anything, is asked from this slot
abbrev pub IsFrom : ℕ → Option SlotVersion → Type 0
IsFrom slot None = Unit {0}
IsFrom slot (Some asked) = asked.slot ≡ slot

-- an empty slot asks nothing; what a slot with a source asks names that slot
abbrev pub IsHeld : ℕ → Option ConfigSource → RolePair → Type 0
IsHeld slot None pair = pair ≡ no_pair
IsHeld slot (Some source) pair = IsFrom slot pair.required × IsFrom slot pair.recommended

-- each slot, from this one on, has its pair
abbrev pub AreHeld : ℕ → List (Option ConfigSource) → List RolePair → Type 0
AreHeld slot [] [] = Unit {0}
AreHeld slot [] (pair ∷ pairs) = ⊥
AreHeld slot (source ∷ sources) [] = ⊥
AreHeld slot (source ∷ sources) (pair ∷ pairs) = IsHeld slot source pair
    × AreHeld (suc slot) sources pairs

-- the version that is asked, if any, with the place of the source in its slot
abbrev pub kept_in : List (Option ConfigSource) → Option SlotVersion → Option Kept
kept_in sources None = None
kept_in sources (Some asked) =
    option_map (λ source. record { version = version_at asked; place = place_of source })
    (get_or sources asked.slot None)

-- the versions that a pair asks, each with the place of the source in its slot
abbrev pub roles_in : List (Option ConfigSource) → RolePair → Roles
roles_in sources pair =
    record {
      required = kept_in sources pair.required;
      recommended = kept_in sources pair.recommended;
    }

-- the slot now holds this, and the other slots what they held; the choices are counted anew
pub record IsChanged (slot : ℕ) (occupant : Option SourceAsk) (old new : BoardState) : Type 0 where
  pub within : slot < length old.slots
  pub slots : new.slots ≡ set old.slots slot occupant
  pub selections : new.selections ≡ halvings (length old.slots) slot

-- the slot now holds the versions that the source asks
pub record IsPut (slot : ℕ) (source : Source) (old new : BoardState) : Type 0 where
  pub ask : Ask
  pub read : IsRead source ask
  pub changed : IsChanged slot (Some (ask_of_versions source.place ask.versions)) old new

-- what is kept of the source in this slot is what the source asks
pub record IsReadInto (slot : ℕ) (source : Source) (place : ConfigSource) (pair : RolePair) : Type 0
  where
    pub ask : Ask
    pub read : IsRead source ask
    pub of_slot : IsHeld slot (Some place) pair
    pub kept : slot_of (Some place) pair ≡ Some (ask_of_versions source.place ask.versions)
