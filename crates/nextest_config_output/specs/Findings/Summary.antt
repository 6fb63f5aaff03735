-- How many findings there are.
use Rattle.std.specs.Prelude.{ℕ, ◌==◌, List, [], ◌++◌, codes, decimal, if◌then◌else◌}
use Rattle.nextest_config_output.specs.declared.findings.summary.Summary.{Summary}

-- the ending of a noun behind a count: an `s`, unless the count is one
abbrev pub plural_ending : ℕ → List ℕ
plural_ending count = if count == 1 then [] else codes "s"

-- so many of what a noun names
abbrev pub counted : ℕ → List ℕ → List ℕ
counted count noun = decimal count ++ (codes " " ++ (noun ++ plural_ending count))

-- found E errors, W warnings and N notes in F files
abbrev pub summary_text : Summary → List ℕ
summary_text summary =
    codes "found " ++ (counted summary.errors (codes "error")
    ++ (codes ", " ++ (counted summary.warnings (codes "warning")
    ++ (codes " and " ++ (counted summary.notes (codes "note")
    ++ (codes " in " ++ counted summary.files (codes "file")))))))
