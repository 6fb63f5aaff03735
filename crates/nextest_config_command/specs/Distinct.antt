use Rattle.std.specs.Prelude.{ℕ, ◌+◌, List, [], ◌∷◌, if◌then◌else◌, nat_eq}
use Rattle.std.specs.Cmp.Lexicographic.{pointwise}
use Rattle.std.specs.List.{list_any}

-- how many different texts there are: each counts where it stands last
abbrev pub distinct : List (List ℕ) → ℕ
distinct [] = 0
distinct (text ∷ rest) = (if list_any (pointwise nat_eq text) rest then 0 else 1) + distinct rest
