-- What a format tells of a finding.
pub mod View
pub use View.{found_text, key_text, severity_text, DiagnosticView, diagnostic_view}
use Rattle.std.specs.Prelude.{ℕ, List, ◌++◌}
use Rattle.nextest_config_output.specs.Findings.Excerpt.{excerpt}
use Rattle.nextest_config_output.specs.Findings.Github.{github_line}
use Rattle.nextest_config_output.specs.Findings.Human.{human_line}
use Rattle.nextest_config_output.specs.Findings.JsonLine.{json_line}
use Rattle.nextest_config_output.specs.declared.findings.format.Format.{Format}
use Rattle.nextest_config_output.specs.declared.findings.format.Format.TheVariants.{Full, Github, Human, Json}

-- a finding in a format, where its file has these lines
abbrev pub diagnostic_text : Format → DiagnosticView → List (List ℕ) → List ℕ
diagnostic_text Human diagnostic lines = human_line diagnostic
diagnostic_text Full diagnostic lines = human_line diagnostic ++ excerpt diagnostic.span lines
diagnostic_text Github diagnostic lines = github_line diagnostic
diagnostic_text Json diagnostic lines = json_line diagnostic
