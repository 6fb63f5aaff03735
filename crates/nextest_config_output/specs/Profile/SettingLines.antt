-- The lines of a report's settings.
use Rattle.std.specs.Prelude.{ℕ, List, ◌∷◌, flat_map, map}
use Rattle.std.proofs.Common.{Global, Vec}
use Rattle.nextest_config_profiles.specs.declared.report.parts.Row.{Row}
use Rattle.nextest_config_output.specs.Profile.SourcedLine.{hidden_line, Line, row_line}

-- the line of a key, and below it those of what it hides
abbrev pub row_lines : List ℕ → Row → List Line
row_lines name row = row_line name row ∷ map (hidden_line name) row.hidden.items

-- the lines of all keys of all settings
abbrev pub setting_lines : List ℕ → List (Vec Row Global) → List Line
setting_lines name settings = flat_map (λ rows. flat_map (row_lines name) rows.items) settings
