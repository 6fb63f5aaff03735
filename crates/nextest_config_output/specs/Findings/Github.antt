-- A finding as one of GitHub's workflow commands.
use Rattle.std.specs.Prelude.{ℕ, ◌==◌, List, [], ◌++◌, codes, decimal, if◌then◌else◌}
use Rattle.toml_spans.specs.declared.place.Span.{Span}
use Rattle.nextest_config_lint.specs.declared.finding.FindingSeverity.{FindingSeverity}
use Rattle.nextest_config_lint.specs.declared.finding.FindingSeverity.TheVariants.{Error, Note, Warning}
use Rattle.nextest_config_output.specs.Findings.Escapes.{escaped_text}
use Rattle.nextest_config_output.specs.Findings.Diagnostic.View.{found_text, DiagnosticView}
use Rattle.nextest_config_output.specs.declared.findings.escapes.Escapes.TheVariants.{Message, Property}

-- the command that shows a finding of this severity
abbrev pub github_command : FindingSeverity → List ℕ
github_command Error = codes "error"
github_command Warning = codes "warning"
github_command Note = codes "notice"

-- ,col=COLUMN,endColumn=COLUMN; nothing where the range has several lines
abbrev pub columns_text : Span → List ℕ
columns_text span = if span.begin.line == span.end.line
    then codes ",col="
    ++ (decimal span.begin.column ++ (codes ",endColumn=" ++ decimal span.end.column))
    else []

-- line=LINE,endLine=LINE and the columns
abbrev pub span_text : Span → List ℕ
span_text span =
    codes "line=" ++ (decimal span.begin.line ++ (codes ",endLine=" ++ (decimal span.end.line
    ++ columns_text span)))

-- FILE:LINE:COLUMN: FINDING
abbrev pub place_and_found : DiagnosticView → List ℕ
place_and_found diagnostic =
    escaped_text Message diagnostic.file
    ++ (codes ":" ++ (decimal diagnostic.span.begin.line
    ++ (codes ":" ++ (decimal diagnostic.span.begin.column
    ++ (codes ": " ++ found_text Message diagnostic)))))

-- ::COMMAND file=FILE,line=LINE,endLine=LINE,col=COLUMN,endColumn=COLUMN,title=CODE:: and then
-- FILE:LINE:COLUMN: FINDING; without the columns where the range has several lines
abbrev pub github_line : DiagnosticView → List ℕ
github_line diagnostic =
    codes "::" ++ (github_command diagnostic.severity
    ++ (codes " file=" ++ (escaped_text Property diagnostic.file
    ++ (codes "," ++ (span_text diagnostic.span ++ (codes ",title=" ++ (diagnostic.code
    ++ (codes "::" ++ (place_and_found diagnostic ++ codes "\n")))))))))
