-- A finding as people read it.
use Rattle.std.specs.Prelude.{ℕ, List, ◌++◌, codes, decimal}
use Rattle.nextest_config_output.specs.Findings.Escapes.{escaped_text}
use Rattle.nextest_config_output.specs.Findings.Diagnostic.View.{found_text, severity_text, DiagnosticView}
use Rattle.nextest_config_output.specs.declared.findings.escapes.Escapes.TheVariants.{InLine}

-- FILE:LINE:COLUMN: SEVERITY: FINDING [CODE], as gcc prints its warnings
abbrev pub human_line : DiagnosticView → List ℕ
human_line diagnostic =
    escaped_text InLine diagnostic.file
    ++ (codes ":" ++ (decimal diagnostic.span.begin.line
    ++ (codes ":" ++ (decimal diagnostic.span.begin.column
    ++ (codes ": " ++ (severity_text diagnostic.severity
    ++ (codes ": " ++ (found_text InLine diagnostic
    ++ (codes " [" ++ (diagnostic.code ++ codes "]\n"))))))))))
