-- What the command answers about files that were read.
use Rattle.std.specs.Prelude.{◌≡◌, ℕ, Bool, true, false, not, ◌&&◌, ◌||◌, if◌then◌else◌, List, [], ◌∷◌, ◌++◌, string_bytes}
use Rattle.semver.specs.Identifiers.{parts_of}
use Rattle.nextest_config.specs.declared.nextest_version.edition.Edition.{Edition}
use Rattle.nextest_config.specs.NextestVersion.{Configuration, error, IsSelectedFor, satisfied, warn}
use Rattle.nextest_config.specs.NextestVersion.Verdict.{Verdict}
use Rattle.nextest_config_lint.specs.declared.code.FindingCode.{FindingCode}
use Rattle.nextest_config_output.specs.declared.findings.format.Format.TheVariants.{Human}
use Rattle.nextest_config_output.specs.declared.findings.summary.Summary.{Summary}
use Rattle.nextest_config_profiles.specs.declared.layer.Layer.{Layer}
use Rattle.nextest_config_report.specs.Show.{show_text}
use Rattle.nextest_config_report.specs.declared.exit_status.ExitStatus.{ExitStatus}
use Rattle.nextest_config_report.specs.declared.exit_status.ExitStatus.TheVariants.{Failure, NoOutcome, Refused, Success}
use Rattle.nextest_config_report.specs.declared.show.ShowFormat.{ShowFormat}
use Rattle.nextest_config_report.specs.declared.show.ShowFormat.TheVariants as shows
use Rattle.nextest_config_command.specs.FileFindings.{AreFound, FileFound, Judging}
use Rattle.nextest_config_command.specs.FileList.{IsListedAs, IsRefusedList, sources_of_files}
use Rattle.nextest_config_command.specs.Files.{File}
use Rattle.nextest_config_command.specs.Found.{all_files, FilesRead}
use Rattle.nextest_config_command.specs.Layers.{AreLayers, AreProfileNames}
use Rattle.nextest_config_command.specs.Lint.{failure_if, fails_by, lint_status, lint_text, summary_of}
use Rattle.nextest_config_command.specs.Printed.{for_people, in_format, in_show_format, Text, text_of}
use Rattle.nextest_config_command.specs.Verdict.{IsVerdictReported}
use Rattle.nextest_config_command.specs.declared.answer.Answer.{Answer}
use Rattle.nextest_config_command.specs.declared.request.CheckTask.{CheckTask}
use Rattle.nextest_config_command.specs.declared.request.LintOptions.{LintOptions}

-- ---- an answer

-- what is written, what is said on the second stream, and how the command ends
pub record AnswerView : Type 0 where
  pub text : Text
  pub said : Text
  pub status : ExitStatus

-- what an answer says, without where it lies in memory
abbrev pub answer_of : Answer → AnswerView
answer_of answer = record {
  text = text_of answer.text;
  said = text_of answer.said;
  status = answer.status;
}

-- the answer that writes this, and says nothing
abbrev pub writes : Text → ExitStatus → AnswerView
writes text status = record { text = text; said = for_people []; status = status }

-- the answer that says this, and writes nothing
abbrev pub says : Text → ExitStatus → AnswerView
says said status = record { text = for_people []; said = said; status = status }

-- ---- lint

-- something is said: the text isn't empty
abbrev pub is_said : List ℕ → Bool
is_said [] = false
is_said (byte ∷ text) = true

-- a strict check of what passes fails where a file that is looked for is missing
abbrev pub failing_if : Bool → ExitStatus → ExitStatus
failing_if true Success = Failure
failing_if is_failing status = status

-- the status of what is found in files: there is none where one can't be read; and a strict check
-- of what passes fails where a file that is looked for is missing
abbrev pub status_found : Bool → FilesRead → ExitStatus → ExitStatus
status_found strict files status = if files.is_partial then NoOutcome
    else failing_if (strict && is_said files.notices) status

-- how files are judged, and which of their findings are reported: for a check also those for which
-- the files are refused
abbrev pub judging : Edition → List FindingCode → Bool → Judging
judging edition allowed tells_refusals =
    record { edition = edition; allowed = allowed; tells_refusals = tells_refusals }

-- how a lint judges files: findings whose code is allowed are left out
abbrev pub lint_judging : Edition → LintOptions → Judging
lint_judging edition options = judging edition options.allowed.items false

-- how a check judges files: as a lint does, but what they are refused for is reported in any case
abbrev pub check_judging : Edition → LintOptions → Judging
check_judging edition options = judging edition options.allowed.items true

-- what is found in the files, reported in a format, and its status
pub record IsLinted (edition : Edition) (options : LintOptions) (files : FilesRead)
    (answer : AnswerView) : Type 0 where
  pub found : List FileFound
  pub are_found : AreFound (lint_judging edition options) files found
  pub is : answer ≡ writes (in_format options.format (lint_text options.format found))
      (status_found options.strict files (lint_status options.strict (summary_of found)))

-- ---- check

-- the verdict is an error that isn't overridden
abbrev pub fails : Verdict → Bool
fails satisfied = false
fails (warn shortfall) = false
fails (error shortfall) = not shortfall.overridden

-- the verdict is a warning that isn't overridden
abbrev pub warns : Verdict → Bool
warns satisfied = false
warns (warn shortfall) = not shortfall.overridden
warns (error shortfall) = false

-- the status of a verdict that doesn't fail, with what is found
abbrev pub status_checked : Bool → Verdict → Summary → ExitStatus
status_checked strict v summary = failure_if ((strict && warns v) || fails_by strict summary)

-- what is said of the current version: one constructor for each kind of answer
pub data IsChecked (edition : Edition) (files : FilesRead)
    (check : CheckTask) : AnswerView → Type 0 where
  refused_list : (found : List FileFound) → IsRefusedList edition (all_files files)
      → AreFound (check_judging edition check.lint) files found
      → IsChecked edition files check
      (writes (in_format check.lint.format (lint_text check.lint.format found)) Refused)
  not_enough : (configuration : Configuration) (v : Verdict) (front : List ℕ)
      → IsListedAs edition (all_files files) configuration
      → IsSelectedFor (sources_of_files edition (all_files files)) (parts_of check.current)
      check.override_version_check v → fails v ≡ true
      → IsVerdictReported check.lint.format (all_files files) (parts_of check.current) v
      configuration.experimental front
      → IsChecked edition files check (writes (in_format check.lint.format front) Failure)
  enough : (configuration : Configuration) (v : Verdict) (front : List ℕ) (found : List FileFound)
      → IsListedAs edition (all_files files) configuration
      → IsSelectedFor (sources_of_files edition (all_files files)) (parts_of check.current)
      check.override_version_check v → fails v ≡ false
      → IsVerdictReported check.lint.format (all_files files) (parts_of check.current) v
      configuration.experimental front
      → AreFound (check_judging edition check.lint) files found
      → IsChecked edition files check
      (writes (in_format check.lint.format (front ++ lint_text check.lint.format found))
      (status_found check.lint.strict files
      (status_checked check.lint.strict v (summary_of found))))

-- ---- show

-- the answer of `show` about a list that is refused: what is found is reported for people
abbrev pub shown_refusal : ShowFormat → List ℕ → AnswerView
shown_refusal shows.Human text = writes (for_people text) Refused
shown_refusal shows.Json text = says (for_people text) Refused

-- what is shown of files for which a configuration stands: with it the names of their profiles
pub record IsTextShown (format : ShowFormat) (files : List File) (configuration : Configuration)
    (text : List ℕ) : Type 0 where
  pub layers : List Layer
  pub are_layers : AreLayers files layers
  pub profiles : List (List ℕ)
  pub are_names : AreProfileNames layers profiles
  pub text_is : text ≡ show_text format configuration profiles

-- what the files ask: one constructor for each kind of answer
pub data IsShown (edition : Edition) (files : FilesRead) (format : ShowFormat) : AnswerView → Type 0
  where
    refused_files : (found : List FileFound) → IsRefusedList edition (all_files files)
        → AreFound (judging edition [] true) files found
        → IsShown edition files format (shown_refusal format (lint_text Human found))
    shown : (configuration : Configuration) (text : List ℕ)
        → IsListedAs edition (all_files files) configuration
        → IsTextShown format (all_files files) configuration text
        → IsShown edition files format (writes (in_show_format format text) Success)

-- ---- its parts

-- the answer where this verdict is selected, and reported so
abbrev pub IsCheckWith : Edition → FilesRead → CheckTask → Verdict → List ℕ → Answer → Type 0
IsCheckWith edition files check v front answer = (configuration : Configuration)
    → IsListedAs edition (all_files files) configuration
    → IsSelectedFor (sources_of_files edition (all_files files)) (parts_of check.current)
    check.override_version_check v
    → IsVerdictReported check.lint.format (all_files files) (parts_of check.current) v
    configuration.experimental front
    → IsChecked edition files check (answer_of answer)
