-- How far apart two texts are at least.
use Rattle.std.proofs.Common.{ℕ, zero, suc, ◌+◌, ◌≤◌, Bool, List, [], ◌∷◌, length, nat_eq, arith}
use Rattle.std.specs.Prelude.{chars}
use Rattle.std.proofs.lemmas.Int.{clamps}
use Rattle.strsim.specs.Edits.{cost_at, next_row, rows}
use Rattle.nextest_config_values.specs.NearestWord.{distance}

-- one more row of the table of edits: no cell is less than what its places differ by
next_row_apart : (c before : ℕ → ℕ) (n k : ℕ) → ((j : ℕ) → n ≤ before j + j) → ((j : ℕ) → j ≤ before j + n)
    → (suc n ≤ next_row c before (suc n) k + k) × (k ≤ next_row c before (suc n) k + suc n)
unfolding next_row
next_row_apart c before n zero rows_more columns_more = (omega arith, omega arith)
next_row_apart c before n (suc k) rows_more columns_more =
    let left = next_row_apart c before n k rows_more columns_more in
    (omega (arith, clamps, left.0, rows_more k, rows_more (suc k)), omega (arith, clamps, left.1, columns_more k, columns_more (suc k)))

-- the same of the rows of a whole list
rows_apart : {T : Type 0} (eq : T → T → Bool) (xs ys : List T) (n : ℕ) (before : ℕ → ℕ) → ((j : ℕ) → n ≤ before j + j) → ((j : ℕ) → j ≤ before j + n) → (k : ℕ)
    → (n + length xs ≤ rows eq xs ys n before k + k) × (k ≤ rows eq xs ys n before k + (n + length xs))
unfolding rows
rows_apart eq [] ys n before rows_more columns_more k = (omega (arith, rows_more k), omega (arith, columns_more k))
rows_apart eq (x ∷ xs) ys n before rows_more columns_more k =
    let cells = λ (j : ℕ). next_row_apart (cost_at eq x ys) before n j rows_more columns_more in
    let rest = rows_apart eq xs ys (suc n) (next_row (cost_at eq x ys) before (suc n)) (λ j. (cells j).0) (λ j. (cells j).1) k in
    (omega (arith, rest.0), omega (arith, rest.1))

-- two texts are at least as many edits apart as their numbers of characters differ
pub distance_apart : (name word : List ℕ) → (length (chars name) ≤ distance name word + length (chars word)) × (length (chars word) ≤ distance name word + length (chars name))
distance_apart name word =
    let apart = rows_apart nat_eq (chars name) (chars word) 0 (λ j. j) (λ j. omega arith) (λ j. omega arith) (length (chars word)) in
    (omega (arith, apart.0), omega (arith, apart.1))
