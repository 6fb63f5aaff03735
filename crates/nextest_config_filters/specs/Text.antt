-- Texts that are words.
use Rattle.std.specs.Prelude.{ℕ, Bool, List, [], ◌∷◌, nat_eq, Option, Some, None, if◌then◌else◌}
use Rattle.std.specs.Cmp.Lexicographic.{pointwise}
use Rattle.std.specs.List.{list_any}

-- the text is one of these words
abbrev pub is_one_of : List ℕ → List (List ℕ) → Bool
is_one_of cs words = list_any (pointwise nat_eq cs) words

-- what a text means by a table of words
abbrev pub meant_by : List (List (List ℕ) × List ℕ) → List ℕ → Option (List ℕ)
meant_by [] text = None
meant_by ((words, meant) ∷ table) text =
    if is_one_of text words then Some meant else meant_by table text
