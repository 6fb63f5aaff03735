-- Changes of a board, one after the other, and what they leave in each slot.
use Rattle.std.specs.Prelude.{◌≡◌, ◌≢◌, ◌⊎◌, ℕ, List, [], ◌∷◌, ◌++◌, replicate, set, Option, Some, None}
use Rattle.std.specs.List.{AllByRecursion}
use Rattle.nextest_config.specs.Board.Slots.{ask_of_versions, BoardState, IsChanged, IsPut}
use Rattle.nextest_config.specs.NextestVersion.Source.{Source}
use Rattle.nextest_config.specs.NextestVersion.VersionOnly.{IsRead, SourceAsk}
use Rattle.nextest_config.specs.NextestVersion.VersionOnlyDeserialize.{Ask}

-- a change that a board accepts: a source is put into a slot, or the slot is left empty
pub data BoardCommand : Type 0 where
  put : ℕ → Source → BoardCommand
  withdraw : ℕ → BoardCommand

-- the slot that a command changes
abbrev pub slot_in : BoardCommand → ℕ
slot_in (put slot source) = slot
slot_in (withdraw slot) = slot

-- the command changes a board from the first state to the second
abbrev pub Changes : BoardCommand → BoardState → BoardState → Type 0
Changes (put slot source) = IsPut slot source
Changes (withdraw slot) = IsChanged slot None

-- the commands, one after the other, change a board from the first state to the second
abbrev pub ChangesInTurn : List BoardCommand → BoardState → BoardState → Type 0
ChangesInTurn [] old new = old ≡ new
ChangesInTurn (command ∷ commands) old new = (between : BoardState) × Changes command old between
    × ChangesInTurn commands between new

-- a board of so many slots, none of which holds a source
abbrev pub empty_board : ℕ → BoardState
empty_board n = record { slots = replicate n None; selections = 0 }

-- the source that the command leaves in its slot
abbrev pub source_left : BoardCommand → Option Source
source_left (put slot source) = Some source
source_left (withdraw slot) = None

-- the slot holds the versions that the source asks, and nothing where there is none
abbrev pub HoldsSource : Option Source → Option SourceAsk → Type 0
HoldsSource None occupant = occupant ≡ None
HoldsSource (Some source) occupant = (ask : Ask) × IsRead source ask
    × (occupant ≡ Some (ask_of_versions source.place ask.versions))

-- the command leaves this in its slot
abbrev pub LeavesInSlot : BoardCommand → Option SourceAsk → Type 0
LeavesInSlot command = HoldsSource (source_left command)

-- the command changes another slot
abbrev pub IsOfOther : ℕ → BoardCommand → Type 0
IsOfOther slot command = slot_in command ≢ slot

-- this is what the last command of the slot leaves
pub record IsLeft (commands : List BoardCommand) (slot : ℕ) (occupant : Option SourceAsk)
    : Type 0 where
  pub before : List BoardCommand
  pub last : BoardCommand
  pub after : List BoardCommand
  pub whole : commands ≡ before ++ (last ∷ after)
  pub of_slot : slot_in last ≡ slot
  pub leaves : LeavesInSlot last occupant
  pub others_later : AllByRecursion (IsOfOther slot) after

-- the slot holds what its last command leaves, and nothing where it has no command
abbrev pub HoldsLast : List BoardCommand → ℕ → Option SourceAsk → Type 0
HoldsLast commands slot occupant = IsLeft commands slot occupant
    ⊎ (AllByRecursion (IsOfOther slot) commands × (occupant ≡ None))

-- ---- the sources themselves

-- the sources that the slots hold after the commands, of those that they held before
abbrev pub sources_after : List BoardCommand → List (Option Source) → List (Option Source)
sources_after [] sources = sources
sources_after (command ∷ commands) sources =
    sources_after commands (set sources (slot_in command) (source_left command))

-- the sources that are there, in the order of the slots
abbrev pub present : List (Option Source) → List Source
present [] = []
present (None ∷ sources) = present sources
present (Some source ∷ sources) = source ∷ present sources
