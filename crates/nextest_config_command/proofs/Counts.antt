-- How many keys a set of texts has.
use Rattle.std.proofs.Common.{◌≡◌, ℕ, List, [], ◌∷◌, map, Ordering, Bor, refl, ◌∙◌, nat_eq, arith}
use Rattle.std.proofs.lemmas.Cmp.{nat_list_cmp_total, on_total}
use Rattle.std.proofs.lemmas.Map.Text.{is_eq-slice_cmp}
use Rattle.std.proofs.lemmas.Map.Views.{btree_set_len-from_list}
use Rattle.std.specs.BTreeSet.{BTreeSet, btree_set_len, IsFromIterResult}
use Rattle.std.specs.Cmp.Lexicographic.{pointwise, slice_cmp}
use Rattle.std.specs.List.{list_any}
use Rattle.std.specs.Ordering.{eq_by_cmp, nat_cmp}
use Rattle.std.specs.Set.{distinct_count, is_member}
use Rattle.nextest_config_command.specs.Distinct.{distinct}

-- the order of references to texts, which is that of the texts
abbrev by_text : Bor (List ℕ) → Bor (List ℕ) → Ordering
by_text x y = slice_cmp nat_cmp x.now y.now

abbrev texts_of : List (Bor (List ℕ)) → List (List ℕ)
texts_of xs = map (λ x. x.now) xs

-- a reference is among others exactly if its text is among theirs
among : (x : Bor (List ℕ)) (xs : List (Bor (List ℕ))) → is_member (eq_by_cmp by_text) xs x ≡ list_any (pointwise nat_eq x.now) (texts_of xs)
among x [] = refl
among x (y ∷ ys) = grind (arith, is_eq-slice_cmp x.now y.now, among x ys)

counted : (xs : List (Bor (List ℕ))) → distinct_count (eq_by_cmp by_text) xs ≡ distinct (texts_of xs)
counted [] = refl
counted (x ∷ xs) = grind (arith, among x xs, counted xs)

-- the set of all references has one key for each of the different texts
pub one_key_each : (xs : List (Bor (List ℕ))) (set : BTreeSet (Bor (List ℕ))) → IsFromIterResult by_text xs set → btree_set_len set ≡ distinct (texts_of xs)
one_key_each xs set made = btree_set_len-from_list (on_total (λ (x : Bor (List ℕ)). x.now) nat_list_cmp_total) xs set made ∙ counted xs
