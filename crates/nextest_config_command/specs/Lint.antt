-- What is reported of the findings of files.
use Rattle.std.specs.Prelude.{◌≡◌, ℕ, Bool, true, false, ◌&&◌, ◌||◌, List, [], ◌∷◌, ◌++◌, codes, count_by, flat_map, map, nat_lt, string_bytes, if◌then◌else◌}
use Rattle.std.specs.Str.Lines.{lines}
use Rattle.std.specs.Str.Lossy.{utf8_lossy}
use Rattle.toml_spans.specs.Step.{printed_path, step_of}
use Rattle.nextest_config_lint.specs.Finding.{finding_kind_text, finding_severity}
use Rattle.nextest_config_lint.specs.declared.file.LocatedFinding.{LocatedFinding}
use Rattle.nextest_config_lint.specs.declared.finding.Finding.{Finding}
use Rattle.nextest_config_lint.specs.declared.finding.FindingSeverity.{FindingSeverity}
use Rattle.nextest_config_lint.specs.declared.finding.FindingSeverity.TheVariants.{Error, Note, Warning}
use Rattle.nextest_config_output.specs.Findings.Summary.{summary_text}
use Rattle.nextest_config_output.specs.Findings.Diagnostic.{DiagnosticView, diagnostic_text}
use Rattle.nextest_config_output.specs.declared.findings.format.Format.{Format}
use Rattle.nextest_config_output.specs.declared.findings.format.Format.TheVariants.{Full, Github, Human, Json}
use Rattle.nextest_config_output.specs.declared.findings.summary.Summary.{Summary}
use Rattle.nextest_config_report.specs.declared.exit_status.ExitStatus.{ExitStatus}
use Rattle.nextest_config_report.specs.declared.exit_status.ExitStatus.TheVariants.{Failure, Success}
use Rattle.nextest_config_command.specs.Distinct.{distinct}
use Rattle.nextest_config_command.specs.FileFindings.{AreFound, code_text, FileFound, is_error, Judging}
use Rattle.nextest_config_command.specs.Found.{FilesRead}
use Rattle.nextest_config_command.specs.declared.lint.FindingTexts.{FindingTexts}
use Rattle.nextest_config_command.specs.declared.lint.Lint.{Lint}

-- ---- how many findings there are

-- the severity is that of a warning
abbrev pub is_warning : FindingSeverity → Bool
is_warning Error = false
is_warning Warning = true
is_warning Note = false

-- the severity is that of a note
abbrev pub is_note : FindingSeverity → Bool
is_note Error = false
is_note Warning = false
is_note Note = true

-- how grave a finding is
abbrev pub severity_of : LocatedFinding → FindingSeverity
severity_of located = finding_severity located.finding.kind

-- how grave each finding of a file is
abbrev pub severities_in : FileFound → List FindingSeverity
severities_in found = map severity_of found.located

-- how grave each finding of all files is
abbrev pub severities_of : List FileFound → List FindingSeverity
severities_of found = flat_map severities_in found

-- the path of a file, if something is found in it
abbrev pub path_if : List ℕ → List LocatedFinding → List (List ℕ)
path_if path [] = []
path_if path (located ∷ rest) = path ∷ []

-- the paths of the files in which something is found
abbrev pub paths_in : List FileFound → List (List ℕ)
paths_in found = flat_map (λ file. path_if file.path file.located) found

-- how many findings there are of each severity, and in how many files
abbrev pub summary_of : List FileFound → Summary
summary_of found = record {
  errors = count_by is_error (severities_of found);
  warnings = count_by is_warning (severities_of found);
  notes = count_by is_note (severities_of found);
  files = distinct (paths_in found);
}

-- an error fails, and so does a warning where the check is strict
abbrev pub fails_by : Bool → Summary → Bool
fails_by strict summary = nat_lt 0 summary.errors || (strict && nat_lt 0 summary.warnings)

-- the status of a check that fails, or else passes
abbrev pub failure_if : Bool → ExitStatus
failure_if is_failing = if is_failing then Failure else Success

-- the status of what is found, in a check that is strict or not
abbrev pub lint_status : Bool → Summary → ExitStatus
lint_status strict summary = failure_if (fails_by strict summary)

-- ---- how they are reported

-- a finding of the file at a path, by the texts that are printed of it
abbrev pub diagnostic_of : List ℕ → LocatedFinding → DiagnosticView
diagnostic_of path located = record {
  file = path;
  span = located.span;
  severity = severity_of located;
  code = code_text located.finding.kind;
  key = printed_path (map step_of located.finding.path.items);
  message = finding_kind_text located.finding.kind;
}

-- these are the texts of the finding: its printed path, and what is found
abbrev pub AreTextsOf : Finding → FindingTexts → Type 0
AreTextsOf finding texts = (string_bytes texts.key ≡ printed_path (map step_of finding.path.items))
    × (string_bytes texts.message ≡ finding_kind_text finding.kind)

-- the lines of a file that a format shows: U+FFFD stands for what isn't UTF-8
abbrev pub contents_shown : Format → List ℕ → List ℕ
contents_shown Human contents = []
contents_shown Full contents = utf8_lossy contents
contents_shown Github contents = []
contents_shown Json contents = []

-- what is reported of findings of the file at a path, which has these lines
abbrev pub located_text : Format → List ℕ → List (List ℕ) → List LocatedFinding → List ℕ
located_text format path shown located =
    flat_map (λ one. diagnostic_text format (diagnostic_of path one) shown) located

-- what is reported of the findings of a file, with its lines where the format shows them
abbrev pub file_text : Format → FileFound → List ℕ
file_text format found =
    located_text format found.path (lines (contents_shown format found.contents)) found.located

-- the line of how many findings there are, where there are any and the format has one
abbrev pub summary_line : Format → Summary → List ℕ
summary_line Human summary = []
summary_line Full summary =
    if nat_lt 0 summary.files then summary_text summary ++ codes "\n" else []
summary_line Github summary = []
summary_line Json summary = []

-- what is reported of the findings of files, and then how many there are
abbrev pub lint_text : Format → List FileFound → List ℕ
lint_text format found = flat_map (file_text format) found ++ summary_line format (summary_of found)

-- ---- what is made of it

-- what is found in the files is reported in a format
pub record IsLint (judging : Judging) (format : Format) (files : FilesRead) (lint : Lint) : Type 0
  where
    pub found : List FileFound
    pub are_found : AreFound judging files found
    pub text : string_bytes lint.text ≡ lint_text format found
    pub summary : lint.summary ≡ summary_of found
