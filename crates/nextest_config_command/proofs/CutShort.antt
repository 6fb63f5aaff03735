-- How the command ends, by what was written and said.
use Rattle.std.proofs.Common.{◌≡◌, ◌⊎◌, ◌∙◌, ℕ, List, Option, ap, inl, inr, subst}
use Rattle.std.proofs.KnownBytes.{Keeps-refl}
use Rattle.std.specs.Io.KnownBytes.{Appends}
use Rattle.nextest_config_report.specs.ExitStatus.{exit_code}
use Rattle.nextest_config_report.specs.Streams.{AddsFront, AddsOrFails}
use Rattle.nextest_config_report.specs.declared.exit_status.ExitStatus.{ExitStatus}
use Rattle.nextest_config_report.specs.declared.exit_status.ExitStatus.TheVariants.{NoOutcome}
use Rattle.nextest_config_command.specs.Files.{PathStates, unanswered_text, UnlessMemory}
use Rattle.nextest_config_command.specs.Found.{IsFirstUnread}
use Rattle.nextest_config_command.specs.Streams.{cut_off, IsEnded, IsOutput, IsWritten, IsUnwritten, line_of, no_memory, unread}
use Rattle.nextest_config_command.specs.declared.files.Unanswered.{Unanswered}
use Rattle.nextest_config_command.specs.declared.files.Unanswered.TheVariants as fails
use Rattle.nextest_config_command.specs.declared.request.Request.{Request}
use Rattle.nextest_config_command.specs.declared.streams.Output.{Output}

-- a output that was reported serves what is asked for, or its answer couldn't be written
pub written_ended : (holds : PathStates) (request : Request) (output : Output) (status : ExitStatus) (number : ℕ) (unwritten gone unsaid : Type 0) (old new said says : Option (List ℕ)) → IsOutput holds request output
    → number ≡ exit_code status → IsWritten output status old new unsaid said says ⊎ IsUnwritten output status unwritten gone old new unsaid said says
    → IsEnded holds request number unwritten gone old new unsaid said says
written_ended holds request output status number unwritten gone unsaid old new said says (files, read, about) is (inl reported) = inl (record {
  files = files;
  read = read;
  answer = about.answer;
  done = about.done;
  number_is = is ∙ ap exit_code (reported.status_is ∙ about.status);
  written = subst (Appends old new) about.text reported.written;
  noticed = subst (AddsOrFails unsaid said says) about.notices reported.noticed;
})
written_ended holds request output status number unwritten gone unsaid old new said says (files, read, about) is (inr failed) = inr (
  is ∙ ap exit_code failed.status_is,
  cut_off files about.answer failed.between read about.done failed.failed (subst (AddsFront old new) about.text failed.front)
      (subst (AddsOrFails unsaid said failed.between) about.notices failed.noticed) failed.reported,
)

-- there was no answer, and nothing was written
pub unanswered_ended : (holds : PathStates) (request : Request) (unanswered : Unanswered) (status : ExitStatus) (number : ℕ) (unwritten gone unsaid : Type 0) (old said says : Option (List ℕ)) → UnlessMemory (IsFirstUnread holds request) unanswered
    → number ≡ exit_code status → status ≡ NoOutcome → AddsOrFails unsaid said says (line_of (unanswered_text unanswered)) → IsEnded holds request number unwritten gone old old unsaid said says
unanswered_ended holds request (fails.Unread complaint) status number unwritten gone unsaid old said says first is no_outcome reported = inr (is ∙ ap exit_code no_outcome, unread _ first (Keeps-refl old) reported)
unanswered_ended holds request fails.Memory status number unwritten gone unsaid old said says first is no_outcome reported = inr (is ∙ ap exit_code no_outcome, no_memory (Keeps-refl old) reported)
