-- Texts that few edits of a character lead from one to another.
use Rattle.std.specs.Prelude.{ℕ, ◌==◌, ◌||◌, Bool, List, [], ◌∷◌, nat_eq, if◌then◌else◌}
use Rattle.std.specs.Cmp.Lexicographic.{pointwise}
use Rattle.nextest_config_filters.specs.Front.{without_first}

-- what stands in both behind the front that both have
abbrev pub behind_same : List ℕ → List ℕ → List ℕ × List ℕ
behind_same [] ds = ([], ds)
behind_same (c ∷ cs) [] = (c ∷ cs, [])
behind_same (c ∷ cs) (d ∷ ds) = if c == d then behind_same cs ds else (c ∷ cs, d ∷ ds)

-- one edit more than this leads from one to the other: it leaves out the first character of one,
-- or puts in that of the other, or replaces it
abbrev pub by_one : (List ℕ → List ℕ → Bool) → List ℕ × List ℕ → Bool
by_one nearer rests =
    nearer (without_first rests.0) rests.1
    || (nearer rests.0 (without_first rests.1)
    || nearer (without_first rests.0) (without_first rests.1))

-- at most one edit, which comes behind the front that both have
abbrev pub is_within_one : List ℕ → List ℕ → Bool
is_within_one cs ds = by_one (pointwise nat_eq) (behind_same cs ds)

-- at most two
abbrev pub is_within_two : List ℕ → List ℕ → Bool
is_within_two cs ds = by_one is_within_one (behind_same cs ds)
