-- The report on an input.
use Rattle.std.specs.Prelude.{◌≡◌, ℕ, Bool, true, false, List, ◌++◌, codes, map, string_bytes}
use Rattle.std.specs.Str.{IsUtf8}
use Rattle.std.specs.Fmt.{decimal}
use Rattle.semver.specs.Parse.{Parts}
use Rattle.nextest_config.specs.NextestVersion.Verdict.{Verdict}
use Rattle.nextest_config.specs.NextestVersion.{Configuration, error, IsFirstRefused, IsSelectedFor, Refusal, refusal_text, satisfied, StandsFor, warn}
use Rattle.nextest_config.specs.NextestVersion.ExperimentalConfig.{Experimental}
use Rattle.nextest_config.specs.NextestVersion.Source.{Given, under}
use Rattle.nextest_config.specs.declared.nextest_version.edition.Edition.{Edition}
use Rattle.nextest_config_report.specs.ExitStatus.{exit_code}
use Rattle.nextest_config_report.specs.Lines.{read_text}
use Rattle.nextest_config_report.specs.declared.source.SourceStyle.TheVariants.{AsWritten}
use Rattle.nextest_config_report.specs.declared.exit_status.ExitStatus.{ExitStatus}
use Rattle.nextest_config_report.specs.declared.exit_status.ExitStatus.TheVariants as exits
use Rattle.nextest_config_check.specs.Layout.{AreBlocks, IsFaultyLine}
use Rattle.nextest_config_check.specs.declared.report.Outcome.{Outcome}
use Rattle.nextest_config_check.specs.declared.report.Report.{Report}
use Rattle.nextest_config_check.specs.declared.report.Outcome.TheVariants.{Passed, Failed, Refused}

-- the outcome of a verdict: an error that isn't overridden fails, and any other one passes
abbrev pub outcome_of : Verdict → Outcome
outcome_of satisfied = Passed
outcome_of (warn shortfall) = Passed
outcome_of (error shortfall) = error_outcome shortfall.overridden
  where
    error_outcome : Bool → Outcome
    error_outcome true = Passed
    error_outcome false = Failed

-- the report on the input, and its outcome: one constructor for each kind of report
pub data IsReport (input : List ℕ) (current : Parts) (overridden : Bool) (edition : Edition) : List
    ℕ → Outcome → Type 0 where
  not_text : ¬ IsUtf8 input
      → IsReport input current overridden edition (codes "refused: input isn't UTF-8\n") Refused
  faulty_line : (number : ℕ) → IsUtf8 input → IsFaultyLine input number
      → IsReport input current overridden edition
      (codes "refused: line " ++ (decimal number ++ codes " isn't a source line\n")) Refused
  refused_list : (sources : List Given) (position : ℕ) (refusal : Refusal) → IsUtf8 input
      → AreBlocks sources input → IsFirstRefused (map (under edition) sources) position refusal
      → IsReport input current overridden edition
      (codes "refused at "
      ++ (decimal position ++ (codes ": " ++ (refusal_text refusal ++ codes "\n")))) Refused
  read_list : (sources : List Given) (v : Verdict) (configuration : Configuration) → IsUtf8 input
      → AreBlocks sources input → IsSelectedFor (map (under edition) sources) current overridden v
      → StandsFor (map (under edition) sources) configuration
      → IsReport input current overridden edition
      (read_text AsWritten current v configuration.experimental)
      (outcome_of v)

-- the report is that of a list that reads, with this verdict and these features
pub record IsReportOf (current : Parts) (v : Verdict) (experimental : Experimental)
    (report : Report) : Type 0 where
  pub text : string_bytes report.text ≡ read_text AsWritten current v experimental
  pub outcome : report.outcome ≡ outcome_of v

-- the report on each input that holds these sources, and its outcome
abbrev pub IsReportOn : List Given → Parts → Bool → Edition → List ℕ → Outcome → Type 0
IsReportOn sources current overridden edition text outcome = (input : List ℕ) → IsUtf8 input
    → AreBlocks sources input → IsReport input current overridden edition text outcome

-- how the program ends with an outcome
abbrev pub exit_status_of : Outcome → ExitStatus
exit_status_of Passed = exits.Success
exit_status_of Failed = exits.Failure
exit_status_of Refused = exits.Refused

-- the number of the status that an outcome ends in
abbrev pub status_of : Outcome → ℕ
status_of outcome = exit_code (exit_status_of outcome)

-- the report is the one on this input
abbrev pub IsReportFor : List ℕ → Parts → Bool → Edition → Report → Type 0
IsReportFor input current overridden edition report =
    IsReport input current overridden edition (string_bytes report.text) report.outcome

-- the report is the one on each input that holds these sources
abbrev pub IsReportForSources : List Given → Parts → Bool → Edition → Report → Type 0
IsReportForSources sources current overridden edition report =
    IsReportOn sources current overridden edition (string_bytes report.text) report.outcome
