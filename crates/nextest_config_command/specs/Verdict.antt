-- The verdict on the current version, as the formats tell it.
use Rattle.std.specs.Prelude.{◌≡◌, ℕ, Bool, true, false, List, [], ◌++◌, codes}
use Rattle.semver.specs.Identifiers.{parts_text}
use Rattle.semver.specs.Parse.{Parts}
use Rattle.nextest_config.specs.NextestVersion.ExperimentalConfig.{Experimental}
use Rattle.nextest_config.specs.NextestVersion.{error, satisfied, Shortfall, warn, place_text}
use Rattle.nextest_config.specs.NextestVersion.Verdict.{shortfall, Verdict}
use Rattle.nextest_config.specs.declared.nextest_version.verdict.UnmetVersion.{UnmetVersion}
use Rattle.nextest_config.specs.declared.nextest_version.verdict.VersionRole.{VersionRole}
use Rattle.nextest_config.specs.declared.nextest_version.verdict.VersionRole.TheVariants.{Recommended, Required}
use Rattle.toml_spans.specs.Step.{printed_path}
use Rattle.nextest_config_lint.specs.declared.finding.FindingSeverity.{FindingSeverity}
use Rattle.nextest_config_lint.specs.declared.finding.FindingSeverity.TheVariants.{Error, Warning}
use Rattle.nextest_config_output.specs.Findings.Diagnostic.{DiagnosticView, diagnostic_text}
use Rattle.nextest_config_output.specs.declared.findings.format.Format.{Format}
use Rattle.nextest_config_output.specs.declared.findings.format.Format.TheVariants.{Full, Github, Human, Json}
use Rattle.nextest_config_report.specs.Lines.{read_text}
use Rattle.nextest_config_report.specs.declared.source.SourceStyle.TheVariants.{InLine}
use Rattle.nextest_config_command.specs.Asked.{AskedView, SomeAsks, IsAskedIn}
use Rattle.nextest_config_command.specs.Files.{File}

-- what an unmet version falls short by
abbrev pub shortfall_of : UnmetVersion → Shortfall
shortfall_of unmet = shortfall unmet.version.now unmet.current.now unmet.source.now unmet.overridden

-- some file asks for the version that the verdict names
abbrev pub IsAskedFor : List File → Verdict → Type 0
IsAskedFor files satisfied = Unit {0}
IsAskedFor files (warn s) = SomeAsks files Recommended s.place
IsAskedFor files (error s) = SomeAsks files Required s.place

-- how grave it is that a version isn't reached; what is overridden counts as a warning
abbrev pub shortfall_severity : VersionRole → Bool → FindingSeverity
shortfall_severity Required false = Error
shortfall_severity Required true = Warning
shortfall_severity Recommended overridden = Warning

-- the word of a role
abbrev pub role_text : VersionRole → List ℕ
role_text Required = codes "required"
role_text Recommended = codes "recommended"

-- the mark of a verdict that is overridden, with a blank behind it
abbrev pub overridden_text : Bool → List ℕ
overridden_text true = codes "(overridden) "
overridden_text false = []

-- VERSION required by SOURCE, current CURRENT
abbrev pub shortfall_message : VersionRole → Shortfall → List ℕ
shortfall_message role s = overridden_text s.overridden ++ (parts_text s.asked
    ++ (codes " " ++ (role_text role ++ (codes " by " ++ (place_text s.place
    ++ (codes ", current " ++ parts_text s.current))))))

-- the finding that the current version falls short of the one that is asked here
abbrev pub shortfall_diagnostic : VersionRole → Shortfall → AskedView → DiagnosticView
shortfall_diagnostic role s asked = record {
  file = s.place.path;
  span = asked.span;
  severity = shortfall_severity role s.overridden;
  code = codes "nextest-version";
  key = printed_path asked.path;
  message = shortfall_message role s;
}

-- the text tells a shortfall as a finding, at the place where a file asks the version
abbrev pub IsShortfallReported : Format → List File → VersionRole → Shortfall → List ℕ → Type 0
IsShortfallReported format files role s text =
    (asked : AskedView) × IsAskedIn files role s.place asked
    × (text ≡ diagnostic_text format (shortfall_diagnostic role s asked) [])

-- the verdict as a finding; one that is satisfied is none
abbrev pub IsVerdictFinding : Format → List File → Verdict → List ℕ → Type 0
IsVerdictFinding format files satisfied text = text ≡ []
IsVerdictFinding format files (warn s) text = IsShortfallReported format files Recommended s text
IsVerdictFinding format files (error s) text = IsShortfallReported format files Required s text

-- the verdict with the features as lines for people, or as a finding alone
abbrev pub IsVerdictReported : Format → List File → Parts → Verdict → Experimental → List ℕ → Type 0
IsVerdictReported Human files current v experimental text =
    text ≡ read_text InLine current v experimental
IsVerdictReported Full files current v experimental text =
    text ≡ read_text InLine current v experimental
IsVerdictReported Github files current v experimental text = IsVerdictFinding Github files v text
IsVerdictReported Json files current v experimental text = IsVerdictFinding Json files v text
