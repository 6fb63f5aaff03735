-- A finding as an object of JSON (RFC 8259).
use Rattle.std.specs.Prelude.{ℕ, List, ◌++◌, codes, decimal}
use Rattle.serde_json.specs.Data.{string}
use Rattle.serde_json.specs.Written.{compact_text}
use Rattle.nextest_config_output.specs.Findings.Diagnostic.View.{severity_text, DiagnosticView}

-- a text as `serde_json` prints it
abbrev pub quoted : List ℕ → List ℕ
quoted text = compact_text (string text)

-- ,"NAME":NUMBER
unfoldable pub number_member : List ℕ → ℕ → List ℕ
number_member name number = codes ",\"" ++ (name ++ (codes "\":" ++ decimal number))

-- ,"NAME":TEXT
unfoldable pub text_member : List ℕ → List ℕ → List ℕ
text_member name text = codes ",\"" ++ (name ++ (codes "\":" ++ quoted text))

-- the object of a finding, on a line of its own
abbrev pub json_line : DiagnosticView → List ℕ
json_line diagnostic =
    codes "{\"path\":" ++ (quoted diagnostic.file
    ++ (number_member (codes "line") diagnostic.span.begin.line
    ++ (number_member (codes "column") diagnostic.span.begin.column
    ++ (number_member (codes "end_line") diagnostic.span.end.line
    ++ (number_member (codes "end_column") diagnostic.span.end.column
    ++ (text_member (codes "severity") (severity_text diagnostic.severity)
    ++ (text_member (codes "code") diagnostic.code
    ++ (text_member (codes "key") diagnostic.key
    ++ (text_member (codes "message") diagnostic.message ++ codes "}\n")))))))))
