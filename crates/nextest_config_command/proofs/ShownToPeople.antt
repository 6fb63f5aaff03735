-- That people see printable texts alone.
use Rattle.std.proofs.Common.{◌≡◌, ◌⊎◌, ℕ, List, [], Option, append-nil, codes, inl, inr, IsTrue, refl, string_bytes, subst, sym}
use Rattle.std.proofs.lemmas.Bool.{true≢false}
use Rattle.std.proofs.KnownBytes.{Appends-kept, Appends-nil, Keeps-refl}
use Rattle.std.specs.Io.KnownBytes.{Appends, Keeps}
use Rattle.nextest_config_output.specs.declared.findings.format.Format.{Format}
use Rattle.nextest_config_output.specs.declared.findings.format.Format.TheVariants as formats
use Rattle.nextest_config_values.proofs.Printable.{printable_joined, printable_lines, printable_plain, printable_text}
use Rattle.nextest_config_values.specs.Literal.Shown.{IsPrintable, shown_lines}
use Rattle.nextest_config_report.specs.Streams.{AddsFront, AddsOrFails}
use Rattle.nextest_config_report.specs.declared.show.ShowFormat.{ShowFormat}
use Rattle.nextest_config_report.specs.declared.show.ShowFormat.TheVariants as shows
use Rattle.nextest_config.specs.declared.nextest_version.edition.Edition.{Edition}
use Rattle.nextest_config_command.specs.Answer.{AnswerView, enough, not_enough, refused_files, refused_list, shown}
use Rattle.nextest_config_command.specs.Done.{IsDone}
use Rattle.nextest_config_command.specs.Files.{absent, bytes, folder, IsUnreadAt, PathState, PathStates, SaysUnread, unanswered_text, UnlessMemory, unreadable, unread_text}
use Rattle.nextest_config_command.specs.Found.{FilesRead, IsFirstUnread, IsUnread, IsUnreadBy, IsUnreadFolder, IsUnreadIn, path_above, path_in}
use Rattle.nextest_config_command.specs.Printed.{in_format, in_show_format, printed}
use Rattle.nextest_config_command.specs.Profile.{faulty, reported, sound, without}
use Rattle.nextest_config_command.specs.Request.{at_path, in_folder, input, named, nearest, Wanted}
use Rattle.nextest_config_command.specs.Streams.{AddsPrintable, AddTwoPrintable, is_for_people, IsOutput, IsOutputAbout, IsSaidOfWrite, is_read_by_people, IsWritten, IsUnwritten, line_of}
use Rattle.nextest_config_command.specs.declared.files.Unanswered.{Unanswered}
use Rattle.nextest_config_command.specs.declared.files.Unanswered.TheVariants as fails
use Rattle.nextest_config_command.specs.declared.request.Request.{Request}
use Rattle.nextest_config_command.specs.declared.streams.Output.{Output}
use Rattle.nextest_config_report.specs.declared.exit_status.ExitStatus.{ExitStatus}
use Rattle.nextest_config_command.specs.declared.request.Task.{Task}
use Rattle.nextest_config_command.specs.declared.request.Task.TheVariants as tasks

-- ---- texts

in_format_printable : (format : Format) (text : List ℕ) → IsTrue (is_for_people (in_format format [])) → IsPrintable (printed (in_format format text))
in_format_printable formats.Human text is = printable_lines text
in_format_printable formats.Full text is = printable_lines text
in_format_printable formats.Github text is = printable_lines text
in_format_printable formats.Json text is = absurd (true≢false (sym is))

in_show_format_printable : (format : ShowFormat) (text : List ℕ) → IsTrue (is_for_people (in_show_format format [])) → IsPrintable (printed (in_show_format format text))
in_show_format_printable shows.Human text is = printable_lines text
in_show_format_printable shows.Json text is = absurd (true≢false (sym is))

-- what is written and what is said of an answer
abbrev Both : AnswerView → Type 0
Both answer = IsPrintable (printed answer.text) × IsPrintable (printed answer.said)

both_of : (answer other : AnswerView) → answer ≡ other → Both other → Both answer
both_of answer other same both = subst Both (sym same) both

pub people_see : (edition : Edition) (task : Task) (files : FilesRead) (answer : AnswerView) → IsTrue (is_read_by_people task) → IsDone edition task files answer → Both answer
people_see edition (tasks.Check check) files answer people (refused_list found refused are) = (in_format_printable check.lint.format _ people, printable_lines [])
people_see edition (tasks.Check check) files answer people (not_enough configuration v front listed selected fails done) = (in_format_printable check.lint.format _ people, printable_lines [])
people_see edition (tasks.Check check) files answer people (enough configuration v front found listed selected passes done are) = (in_format_printable check.lint.format _ people, printable_lines [])
people_see edition (tasks.Lint options) files answer people linted =
    both_of answer _ linted.is (in_format_printable options.format _ people, printable_lines [])
people_see edition (tasks.Show shows.Human) files answer people (refused_files found refused are) = (printable_lines _, printable_lines [])
people_see edition (tasks.Show shows.Json) files answer people (refused_files found refused are) = (printable_lines [], printable_lines _)
people_see edition (tasks.Show format) files answer people (shown configuration text listed is_shown) = (in_show_format_printable format text people, printable_lines [])
people_see edition (tasks.Profile task) files answer people (faulty found errors are done) =
    both_of answer _ done (printable_lines [], in_show_format_printable task.format _ people)
people_see edition (tasks.Profile task) files answer people (sound passes (layers, are, without wrong is_wrong (said, done, same))) =
    both_of answer _ same (printable_lines [], printable_lines _)
people_see edition (tasks.Profile task) files answer people (sound passes (layers, are, reported profile is_of (report, is_report, done))) =
    (subst (λ text. IsPrintable (printed text)) (sym done.text_is) (in_show_format_printable task.format done.text people), subst (λ text. IsPrintable (printed text)) (sym done.said_is) (printable_lines _))

pub unread_printable : (path reason : List ℕ) → IsPrintable (line_of (unread_text path reason))
unread_printable path reason =
    printable_joined _ _ (printable_joined _ _ (printable_text path) (printable_joined _ _ (printable_plain (codes ": ") refl) (printable_text reason))) (printable_plain (codes "\n") refl)

-- ---- streams

whole_front : (old new : Option (List ℕ)) (text : List ℕ) → Appends old new text → AddsFront old new text
whole_front old new text added = ([], record { front = text; cut = sym (append-nil text); added = added })

pub front_added : (unsaid : Type 0) (old new : Option (List ℕ)) (text : List ℕ) → AddsOrFails unsaid old new text → AddsFront old new text
front_added unsaid old new text (inl added) = whole_front old new text added
front_added unsaid old new text (inr (failed, front)) = front

pub nothing_added : (old new : Option (List ℕ)) → Keeps old new → AddsPrintable old new
nothing_added old new kept = ([], printable_plain [] refl, whole_front old new [] (Appends-kept old old new [] (Appends-nil old) kept))

module _ (holds : PathStates) (request : Request) (output : Output) (status : ExitStatus) (unwritten gone unsaid : Type 0) (old new said says : Option (List ℕ)) (people : IsTrue (is_read_by_people request.task)) where
  both_seen : (files : FilesRead) (about : IsOutputAbout request files output) → IsPrintable (string_bytes output.text) × IsPrintable (string_bytes output.notices)
  both_seen files about =
      let seen = people_see request.edition request.task files about.answer people about.done in (
        subst IsPrintable (sym about.text) seen.0,
        subst IsPrintable (sym about.notices) (printable_joined (shown_lines files.notices) (printed about.answer.said) (printable_lines files.notices) seen.1),
      )

  pub written_writes : IsOutput holds request output → IsWritten output status old new unsaid said says ⊎ IsUnwritten output status unwritten gone old new unsaid said says → AddsPrintable old new
  written_writes (files, read, about) (inl done) = (string_bytes output.text, (both_seen files about).0, whole_front old new (string_bytes output.text) done.written)
  written_writes (files, read, about) (inr failed) = (string_bytes output.text, (both_seen files about).0, failed.front)

  pub written_says : IsOutput holds request output → IsWritten output status old new unsaid said says ⊎ IsUnwritten output status unwritten gone old new unsaid said says → AddTwoPrintable said says
  written_says (files, read, about) (inl done) = (
    says,
    (string_bytes output.notices, (both_seen files about).1, front_added unsaid said says (string_bytes output.notices) done.noticed),
    nothing_added says says (Keeps-refl says),
  )
  written_says (files, read, about) (inr failed) = (
    failed.between,
    (string_bytes output.notices, (both_seen files about).1, front_added unsaid said failed.between (string_bytes output.notices) failed.noticed),
    said_of_write failed.between failed.reported,
  )
    where
      said_of_write : (between : Option (List ℕ)) → IsSaidOfWrite gone unsaid between says → AddsPrintable between says
      said_of_write between (inl done) = (line_of (codes "cannot write output"), printable_plain _ refl, front_added unsaid between says _ done)
      said_of_write between (inr (is_gone, kept)) = nothing_added between says kept

-- ---- what can't be read

abbrev Line : List ℕ → Type 0
Line said = IsPrintable (line_of said)

line_is : (path reason said : List ℕ) → said ≡ unread_text path reason → Line said
line_is path reason said is = subst Line (sym is) (unread_printable path reason)

says_line : (path : List ℕ) (state : PathState) (said : List ℕ) → SaysUnread path state said → Line said
says_line path state said (reason, of, is) = line_is path reason said is

module _ (holds : PathStates) where
  at_line : (path said : List ℕ) → IsUnreadAt holds path said → Line said
  at_line path said (state, held, is) = says_line path state said is

  in_line : (path said : List ℕ) → IsUnreadIn holds path said → Line said
  in_line path said (bytes contents, held, is) = says_line (path_in path) (bytes contents) said is
  in_line path said (folder reason, held, is) = says_line (path_in path) (folder reason) said is
  in_line path said (absent reason, held, is) = absurd is
  in_line path said (unreadable reason, held, is) = says_line (path_in path) (unreadable reason) said is

  by_line : (path : List ℕ) (state : PathState) (said : List ℕ) → IsUnreadBy holds path state said → Line said
  by_line path (bytes contents) said is = says_line path (bytes contents) said is
  by_line path (folder reason) said is = in_line path said is
  by_line path (absent reason) said is = says_line path (absent reason) said is
  by_line path (unreadable reason) said is = says_line path (unreadable reason) said is

  folder_line : (path : List ℕ) (state : PathState) (said : List ℕ) → IsUnreadFolder holds path state said → Line said
  folder_line path (bytes contents) said is = line_is path (codes "not a folder") said is
  folder_line path (folder reason) said is = in_line path said is
  folder_line path (absent reason) said is = says_line path (absent reason) said is
  folder_line path (unreadable reason) said is = says_line path (unreadable reason) said is

  wanted_line : (wanted : Wanted) (said : List ℕ) → IsUnread holds wanted said → Line said
  wanted_line (named path) said is = at_line path said is
  wanted_line (at_path path) said (state, held, is) = by_line path state said is
  wanted_line (input name) said (state, held, is) = says_line name state said is
  wanted_line (in_folder path) said (state, held, is) = folder_line path state said is
  wanted_line (nearest many) said (level, within, passed, (reason, held, is)) = line_is (path_above level) reason said is

  first_line : (request : Request) (said : List ℕ) → IsFirstUnread holds request said → Line said
  first_line request said (inl tool) = at_line tool.x.path said tool.fails
  first_line request said (inr (tools, read, file)) = wanted_line file.x said file.fails.1

  pub unanswered_says : (request : Request) (unanswered : Unanswered) (unsaid : Type 0) (said says : Option (List ℕ)) → UnlessMemory (IsFirstUnread holds request) unanswered
      → AddsOrFails unsaid said says (line_of (unanswered_text unanswered)) → AddTwoPrintable said says
  unanswered_says request (fails.Unread complaint) unsaid said says first done =
      (says, (_, first_line request _ first, front_added unsaid said says _ done), nothing_added says says (Keeps-refl says))
  unanswered_says request fails.Memory unsaid said says first done =
      (says, (_, printable_plain _ refl, front_added unsaid said says _ done), nothing_added says says (Keeps-refl says))
