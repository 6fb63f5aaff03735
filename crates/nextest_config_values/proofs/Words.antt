-- Values and their words: the search for the value with a word, and the word at a place.
use Rattle.std.proofs.Common.{◌≡◌, ◌≢◌, ℕ, zero, suc, Bor, List, [], ◌∷◌, map, nat_eq, slice_get, slice_index_or, Some, None, refl, sym, ap, ◌∙◌, inl, inr}
use Rattle.std.proofs.lemmas.Bool.{cases_Bool}
use Rattle.std.specs.Cmp.Lexicographic.{pointwise, same_text}
use Rattle.std.specs.List.{AllByRecursion}
use Rattle.nextest_config_values.specs.Read.{value_of, words_of}

none_found : {X : Type 0} (word : X → List ℕ) (text : List ℕ) (xs : List X) → AllByRecursion (λ x. word x ≢ text) xs → value_of word xs text ≡ None
none_found word text [] h = refl
none_found word text (x ∷ xs) h = elim (cases_Bool (pointwise nat_eq (word x) text)) [
  | inl same ↦ absurd (h.0 (same_text (word x) text (sym same)))
  | inr other ↦ rw other (none_found word text xs h.1)
]

-- where no listed value has this word, none has
pub no_word : {X : Type 0} (all : List X) (word : X → List ℕ) (text : List ℕ) → ((x : X) → value_of word all (word x) ≡ Some x) → AllByRecursion (λ x. word x ≢ text) all
    → (x : X) → word x ≢ text
no_word all word text reads_back h x e = cc (sym (reads_back x) ∙ ap (value_of word all) e ∙ none_found word text all h)

-- where a value stands among all, its word stands among the words
pub word_at : {X : Type 0} (word : X → List ℕ) (all : List X) (words : List (Bor (List ℕ))) (i : ℕ) (x : X) (other : Bor (List ℕ)) → words_of words ≡ map word all → slice_get all i ≡ Some x
    → (slice_index_or words i other).now ≡ word x
word_at word [] words i x other are is = cc is
word_at word (y ∷ ys) [] i x other are is = cc are
word_at word (y ∷ ys) (w ∷ ws) zero x other are is =
    let first : w.now ≡ word y = cc are in
    let same : y ≡ x = cc is in
    first ∙ ap word same
word_at word (y ∷ ys) (w ∷ ws) (suc i) x other are is = word_at word ys ws i x other (cc are) is
