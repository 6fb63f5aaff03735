-- What paths hold, and files that are read of them.
use Rattle.std.specs.Prelude.{◌≡◌, ℕ, List, ◌∷◌, ◌++◌, codes, Option, Some, None, string_bytes}
use Rattle.std.specs.List.{AllZip}
use Rattle.nextest_config_values.specs.Literal.Shown.{shown_text}
use Rattle.nextest_config.specs.NextestVersion.{SourcePlace, place_of}
use Rattle.nextest_config_command.specs.declared.files.FileRead.{FileRead}
use Rattle.nextest_config_command.specs.declared.files.FileRead.TheVariants as reads
use Rattle.nextest_config_command.specs.declared.files.SourceFile.{SourceFile}
use Rattle.nextest_config_command.specs.declared.files.Unanswered.{Unanswered}
use Rattle.nextest_config_command.specs.declared.files.Unanswered.TheVariants as fails

-- what is at a path: bytes; a folder; nothing; or something that can't be read, these three with a
-- reason why there are no bytes
pub data PathState : Type 0 where
  bytes : List ℕ → PathState
  folder : List ℕ → PathState
  absent : List ℕ → PathState
  unreadable : List ℕ → PathState

-- what a read tells of a path
abbrev pub path_state_of : FileRead → PathState
path_state_of (reads.Contents contents) = bytes contents.items
path_state_of (reads.Folder reason) = folder (string_bytes reason)
path_state_of (reads.Absent reason) = absent (string_bytes reason)
path_state_of (reads.Unreadable reason) = unreadable (string_bytes reason)

-- why there are no bytes in this state; nothing where there are some
abbrev pub reason_of : PathState → Option (List ℕ)
reason_of (bytes contents) = None
reason_of (folder reason) = Some reason
reason_of (absent reason) = Some reason
reason_of (unreadable reason) = Some reason

-- what may be at a path, or without one on standard input, as a place that files are read from says
-- it
abbrev pub PathStates : Type 1
PathStates = Option (List ℕ) → PathState → Type 0

-- ---- files

-- a file that was read: where it is, and its bytes
pub record File : Type 0 where
  pub place : SourcePlace
  pub contents : List ℕ

-- a file that was read, without where it lies in memory
abbrev pub file_of : SourceFile → File
file_of file = record { place = place_of file.source; contents = file.contents.items }

-- the file at a place, with these contents
abbrev pub file_at : SourcePlace → List ℕ → File
file_at place contents = record { place = place; contents = contents }

-- the file is at this place
abbrev pub IsThere : PathStates → SourcePlace → File → Type 0
IsThere holds place file = (contents : List ℕ) × holds (Some place.path) (bytes contents)
    × (file ≡ file_at place contents)

-- ---- what can't be read

-- PATH: REASON, how it prints in a line that a file can't be read
abbrev pub unread_text : List ℕ → List ℕ → List ℕ
unread_text path reason = shown_text path ++ (codes ": " ++ shown_text reason)

-- there are no bytes in this state, which prints so
abbrev pub SaysUnread : List ℕ → PathState → List ℕ → Type 0
SaysUnread path state said = (reason : List ℕ) × (reason_of state ≡ Some reason)
    × (said ≡ unread_text path reason)

-- the file at this path can't be read, which prints so
abbrev pub IsUnreadAt : PathStates → List ℕ → List ℕ → Type 0
IsUnreadAt holds path said = (state : PathState) × holds (Some path) state
    × SaysUnread path state said

-- the first element that fails, and what it says, after those that give something
pub record IsFirstFailure {A B : Type 0} (Gives : A → B → Type 0) (Fails : A → List ℕ → Type 0)
    (xs : List A) (said : List ℕ) : Type 0 where
  pub before : List A
  pub x : A
  pub after : List A
  pub whole : xs ≡ before ++ (x ∷ after)
  pub ys : List B
  pub given : AllZip Gives before ys
  pub fails : Fails x said

-- this is why there is no answer, or memory was refused
abbrev pub UnlessMemory : (List ℕ → Type 0) → Unanswered → Type 0
UnlessMemory Says (fails.Unread said) = Says (string_bytes said)
UnlessMemory Says fails.Memory = Unit {0}

-- what is said where there is no answer
abbrev pub unanswered_text : Unanswered → List ℕ
unanswered_text (fails.Unread said) = string_bytes said
unanswered_text fails.Memory = codes "out of memory"
