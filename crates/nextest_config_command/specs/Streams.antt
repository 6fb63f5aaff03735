-- From a request to what is written, and to a status.
use Rattle.std.specs.Prelude.{◌≡◌, ◌⊎◌, ℕ, Bool, true, false, List, [], ◌++◌, codes, Option, string_bytes}
use Rattle.std.specs.Io.KnownBytes.{Appends, Keeps}
use Rattle.nextest_config_values.specs.Literal.Shown.{IsPrintable, shown_lines}
use Rattle.nextest_config_report.specs.ExitStatus.{exit_code}
use Rattle.nextest_config_report.specs.Streams.{AddsFront, AddsOrFails}
use Rattle.nextest_config_report.specs.declared.exit_status.ExitStatus.{ExitStatus}
use Rattle.nextest_config_report.specs.declared.exit_status.ExitStatus.TheVariants.{NoOutcome}
use Rattle.nextest_config_command.specs.Answer.{AnswerView}
use Rattle.nextest_config_command.specs.Done.{IsDone}
use Rattle.nextest_config_command.specs.Files.{PathStates}
use Rattle.nextest_config_command.specs.Found.{FilesRead, IsFirstUnread, IsReadFor}
use Rattle.nextest_config_command.specs.Printed.{as_json, for_people, in_format, in_show_format, printed, Text}
use Rattle.nextest_config_command.specs.declared.request.Request.{Request}
use Rattle.nextest_config_command.specs.declared.request.Task.{Task}
use Rattle.nextest_config_command.specs.declared.request.Task.TheVariants as tasks
use Rattle.nextest_config_command.specs.declared.streams.Output.{Output}

-- a text as a line
abbrev pub line_of : List ℕ → List ℕ
line_of text = text ++ codes "\n"

-- what is said before an answer is written: the notices, and what it says
abbrev pub said_first : FilesRead → AnswerView → List ℕ
said_first files answer = shown_lines files.notices ++ printed answer.said

-- that the answer can't be written was said, or that failed; or its reader is gone
abbrev pub IsSaidOfWrite : Type 0 → Type 0 → Option (List ℕ) → Option (List ℕ) → Type 0
IsSaidOfWrite gone unsaid said says =
    AddsOrFails unsaid said says (line_of (codes "cannot write output"))
    ⊎ (gone × Keeps said says)

-- the answer about the files was written, the command ends with its number, and what is said before
-- the answer was said, or that failed
pub record IsServed (holds : PathStates) (request : Request) (number : ℕ)
    (old new : Option (List ℕ)) (unsaid : Type 0) (said says : Option (List ℕ)) : Type 0 where
  pub files : FilesRead
  pub read : IsReadFor holds request files
  pub answer : AnswerView
  pub done : IsDone request.edition request.task files answer
  pub number_is : number ≡ exit_code answer.status
  pub written : Appends old new (printed answer.text)
  pub noticed : AddsOrFails unsaid said says (said_first files answer)

-- what cut the command short: a file that can't be read, before anything was written; refused
-- memory, before anything was written; or a write of the answer that failed. Each was said, or that
-- failed; nothing is said where the reader of the answer is gone
pub data IsCutShort (holds : PathStates) (request : Request) (unwritten gone : Type 0)
    (old new : Option (List ℕ)) (unsaid : Type 0) (said says : Option (List ℕ)) : Type 0 where
  unread : (complaint : List ℕ) → IsFirstUnread holds request complaint → Keeps old new
      → AddsOrFails unsaid said says (line_of complaint)
      → IsCutShort holds request unwritten gone old new unsaid said says
  no_memory : Keeps old new → AddsOrFails unsaid said says (line_of (codes "out of memory"))
      → IsCutShort holds request unwritten gone old new unsaid said says
  cut_off : (files : FilesRead) (answer : AnswerView) (between : Option (List ℕ))
      → IsReadFor holds request files → IsDone request.edition request.task files answer
      → unwritten → AddsFront old new (printed answer.text)
      → AddsOrFails unsaid said between (said_first files answer)
      → IsSaidOfWrite gone unsaid between says
      → IsCutShort holds request unwritten gone old new unsaid said says

-- the command did what it was asked, or was cut short and ends with 3
abbrev pub IsEnded : PathStates → Request → ℕ → Type 0 → Type 0 → Option (List ℕ)
    → Option (List ℕ) → Type 0 → Option (List ℕ) → Option (List ℕ) → Type 0
IsEnded holds request number unwritten gone old new unsaid said says =
    IsServed holds request number old new unsaid said says
    ⊎ ((number ≡ 3) × IsCutShort holds request unwritten gone old new unsaid said says)

-- ---- what people see

-- the text is one for people, and not JSON
abbrev pub is_for_people : Text → Bool
is_for_people (for_people text) = true
is_for_people (as_json text) = false

-- the task is reported to people, and not as JSON
abbrev pub is_read_by_people : Task → Bool
is_read_by_people (tasks.Check check) = is_for_people (in_format check.lint.format [])
is_read_by_people (tasks.Lint options) = is_for_people (in_format options.format [])
is_read_by_people (tasks.Show format) = is_for_people (in_show_format format [])
is_read_by_people (tasks.Profile task) = is_for_people (in_show_format task.format [])

-- known bytes stay, and a printable text, or a front of it, comes after them
abbrev pub AddsPrintable : Option (List ℕ) → Option (List ℕ) → Type 0
AddsPrintable old new = (text : List ℕ) × IsPrintable text × AddsFront old new text

-- known bytes stay, and two printable texts, or fronts of them, come after them in turn
abbrev pub AddTwoPrintable : Option (List ℕ) → Option (List ℕ) → Type 0
AddTwoPrintable old new = (between : Option (List ℕ)) × AddsPrintable old between
    × AddsPrintable between new

-- ---- one step

-- the output is the answer about these files, and what is said before it
pub record IsOutputAbout (request : Request) (files : FilesRead) (output : Output) : Type 0 where
  pub answer : AnswerView
  pub done : IsDone request.edition request.task files answer
  pub notices : string_bytes output.notices ≡ said_first files answer
  pub text : string_bytes output.text ≡ printed answer.text
  pub status : output.status ≡ answer.status

-- the output is the answer about the files that are read for the request, and what is said before
-- it
abbrev pub IsOutput : PathStates → Request → Output → Type 0
IsOutput holds request output = (files : FilesRead) × IsReadFor holds request files
    × IsOutputAbout request files output

-- the answer of the output was written, and what is said before it was said, or that failed
pub record IsWritten (output : Output) (status : ExitStatus) (old new : Option (List ℕ))
    (unsaid : Type 0) (said says : Option (List ℕ)) : Type 0 where
  pub status_is : status ≡ output.status
  pub written : Appends old new (string_bytes output.text)
  pub noticed : AddsOrFails unsaid said says (string_bytes output.notices)

-- the answer of the output couldn't be written beyond a front, and the command has no outcome
pub record IsUnwritten (output : Output) (status : ExitStatus) (unwritten gone : Type 0)
    (old new : Option (List ℕ)) (unsaid : Type 0) (said says : Option (List ℕ)) : Type 0 where
  pub status_is : status ≡ NoOutcome
  pub failed : unwritten
  pub front : AddsFront old new (string_bytes output.text)
  pub between : Option (List ℕ)
  pub noticed : AddsOrFails unsaid said between (string_bytes output.notices)
  pub reported : IsSaidOfWrite gone unsaid between says
