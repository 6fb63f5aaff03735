-- What a path leads to in what `toml` reads, and the lines of a text.
use Rattle.std.specs.Prelude.{◌≡◌, ℕ, suc, ◌==◌, List, [], ◌∷◌, ◌++◌, count_by, Option}
use Rattle.toml.specs.Data.{Data, Members, at, get, get_member}
use Rattle.toml_spans.specs.Characters.{line_feed}
use Rattle.toml_spans.specs.Step.{follow, follow_path, index, key, PathStep}

-- ---- what a path leads to

-- the value that a step leads to, from a value
abbrev pub step_from : Data → PathStep → Option Data
step_from value (key text) = get text value
step_from value (index place) = at place value

-- the value that steps lead to, from a value
abbrev pub found_below : List PathStep → Data → Option Data
found_below = follow step_from

-- the value that a path leads to, from the keys of a document
abbrev pub found_in : Members → List PathStep → Option Data
found_in top = follow_path step_from (λ text. get_member text top)

-- ---- lines

-- the text ends in a line feed
abbrev pub EndsLine : List ℕ → Type 0
EndsLine text = (line : List ℕ) × (text ≡ line ++ (line_feed ∷ []))

-- the number of the line, from 1, that begins after this front
abbrev pub line_after : List ℕ → ℕ
line_after front = suc (count_by (λ byte. byte == line_feed) front)
