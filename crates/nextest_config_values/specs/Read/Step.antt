-- The paths that refusals print of values.
use Rattle.std.specs.Prelude.{ℕ, List, [], ◌∷◌, ◌++◌, codes, decimal}
use Rattle.toml_spans.specs.Step.{index, key, PathStep}

-- the path of a key in the table at a path
abbrev pub path_of : List ℕ → List ℕ → List ℕ
path_of [] name = name
path_of (b ∷ at) name = (b ∷ at) ++ (codes "." ++ name)

-- the path of what a step leads to from the value at a path
abbrev pub path_by : List ℕ → PathStep → List ℕ
path_by at (key text) = path_of at text
path_by at (index place) = at ++ (codes "[" ++ (decimal place ++ codes "]"))

-- the path of what these steps lead to, one after the other
abbrev pub path_along : List ℕ → List PathStep → List ℕ
path_along at [] = at
path_along at (step ∷ rest) = path_along (path_by at step) rest
