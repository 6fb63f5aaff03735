-- A finding, by the texts that formats print of it.
use Rattle.std.specs.Prelude.{ℕ, ◌==◌, List, [], ◌++◌, codes, length, if◌then◌else◌}
use Rattle.toml_spans.specs.declared.place.Span.{Span}
use Rattle.nextest_config_lint.specs.declared.finding.FindingSeverity.{FindingSeverity}
use Rattle.nextest_config_lint.specs.declared.finding.FindingSeverity.TheVariants.{Error, Note, Warning}
use Rattle.nextest_config_output.specs.Findings.Escapes.{escaped_text}
use Rattle.nextest_config_output.specs.declared.findings.escapes.Escapes.{Escapes}
use Rattle.nextest_config_output.specs.declared.findings.diagnostic.Diagnostic.{Diagnostic}

-- a finding, by the texts that formats print of it
pub record DiagnosticView : Type 0 where
  -- the printed path of its file, and where it stands there
  pub file : List ℕ
  pub span : Span
  -- how grave it is, and the word of its kind
  pub severity : FindingSeverity
  pub code : List ℕ
  -- the printed path of what is found, which is empty for the whole file, and what is said of it
  pub key : List ℕ
  pub message : List ℕ

-- a finding, without where its texts lie in memory
abbrev pub diagnostic_view : Diagnostic → DiagnosticView
diagnostic_view diagnostic = record {
  file = diagnostic.file.now;
  span = diagnostic.span;
  severity = diagnostic.severity;
  code = diagnostic.code.now;
  key = diagnostic.key.now;
  message = diagnostic.message.now;
}

-- the word of a severity
abbrev pub severity_text : FindingSeverity → List ℕ
severity_text Error = codes "error"
severity_text Warning = codes "warning"
severity_text Note = codes "note"

-- KEY: and a blank; nothing for the whole file
abbrev pub key_text : Escapes → List ℕ → List ℕ
key_text escapes key = if length key == 0 then [] else escaped_text escapes key ++ codes ": "

-- KEY: MESSAGE; the message alone for the whole file
abbrev pub found_text : Escapes → DiagnosticView → List ℕ
found_text escapes diagnostic =
    key_text escapes diagnostic.key ++ escaped_text escapes diagnostic.message
