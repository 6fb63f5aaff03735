-- The column after a front of a text, one byte more.
use Rattle.std.proofs.Common.{◌≡◌, ℕ, suc, ◌+◌, ◌<◌, ◌≤◌, Bool, List, [], ◌∷◌, ◌++◌, append_assoc, append-nil, ap, arith, cond, count_by, get_or, if◌then◌else◌, inl, inr, length, refl, sym, take, ◌∙◌}
use Rattle.std.proofs.lemmas.Bool.Decides.{eqb_tells, nat_tests}
use Rattle.std.proofs.lemmas.Grind.{common_steps}
use Rattle.std.proofs.lemmas.List.{take_more}
use Rattle.std.proofs.lemmas.List.Sums.{sum_by_push}
use Rattle.toml_spans.specs.Characters.{line_feed}
use Rattle.toml_spans.proofs.Elements.{all_joined}
use Rattle.toml_spans.specs.Front.{column_after}
use Rattle.toml_spans.specs.Offsets.{begins_character}
use Rattle.toml_spans.specs.Place.{IsColumn, IsInLine}

-- after a byte in the line
next_in_line : (p : ℕ → Bool) (xs : List ℕ) (x column : ℕ) → column ≡ suc (count_by p xs) → (if p x then column + 1 else column) ≡ suc (count_by p (xs ++ (x ∷ [])))
next_in_line p xs x column is = grind (arith, common_steps, sum_by_push (λ y. cond (p y) 1 0) xs x)

-- the column after one byte more
pub column_more : (front : List ℕ) (byte column : ℕ) → IsColumn front column → IsColumn (front ++ (byte ∷ [])) (column_after column byte)
column_more front byte column is = elim (eqb_tells byte line_feed) [
  | inl told ↦ rw told.0 (record {
    before = front ++ (byte ∷ []);
    last = [];
    whole = sym (append-nil (front ++ (byte ∷ [])));
    begins = inl (front, ap (λ (b : ℕ). front ++ (b ∷ [])) told.1);
    one_line = tt;
    column_is = refl;
  })
  | inr told ↦ rw told.0 (record {
    before = is.before;
    last = is.last ++ (byte ∷ []);
    whole = ap (λ (f : List ℕ). f ++ (byte ∷ [])) is.whole ∙ append_assoc is.before is.last (byte ∷ []);
    begins = is.begins;
    one_line = all_joined IsInLine is.last (byte ∷ []) is.one_line (told.1, tt);
    column_is = next_in_line begins_character is.last byte column is.column_is;
  })
]

pub column_of_more : (xs : List ℕ) (i d column : ℕ) → i < length xs → IsColumn (take i xs) column → IsColumn (take (i + 1) xs) (column_after column (get_or xs i d))
column_of_more xs i d column within is = rw (take_more xs i d within) (column_more (take i xs) (get_or xs i d) column is)

-- a column is at most one more than before
pub column_within : (column byte n : ℕ) → column ≤ n → 0 < n → column_after column byte ≤ n + 1
column_within column byte n within some = grind (arith, nat_tests)
