-- Texts that are written one after the other, with separators.
use Rattle.std.proofs.Common.{◌≡◌, ℕ, Bor, List, [], ◌∷◌, ◌++◌, codes, map, refl, sym, ap, ◌∙◌, append_assoc}
use Rattle.std.proofs.lemmas.Simd.{map-map}
use Rattle.nextest_config_values.specs.Read.{comma_list, words_of}

-- what stands before a text that comes after these
abbrev pub separator_after : {X : Type 0} → List X → List ℕ
separator_after [] = []
separator_after (x ∷ xs) = codes ", "

pub separator_more : {X : Type 0} (xs : List X) (x : X) → codes ", " ≡ separator_after (xs ++ (x ∷ []))
separator_more [] x = refl
separator_more (first ∷ rest) x = refl

pub joined_more : {X : Type 0} (text : X → List ℕ) (xs : List X) (x : X) → comma_list (map text (xs ++ (x ∷ []))) ≡ comma_list (map text xs) ++ (separator_after xs ++ text x)
joined_more text [] x = refl
joined_more text (first ∷ []) x = refl
joined_more text (first ∷ next ∷ rest) x =
    ap (λ more. text first ++ (codes ", " ++ more)) (joined_more text (next ∷ rest) x)
    ∙ sym (append_assoc (text first) (codes ", " ++ comma_list (map text (next ∷ rest))) (codes ", " ++ text x))

-- of words that are lent
pub joined_words : (text : List ℕ → List ℕ) (words : List (Bor (List ℕ))) (word : Bor (List ℕ)) (separator : List ℕ) → separator ≡ separator_after words
    → comma_list (map text (words_of words)) ++ (separator ++ text word.now) ≡ comma_list (map text (words_of (words ++ (word ∷ []))))
joined_words text words word separator is =
    rw (is, map-map text (λ (w : Bor (List ℕ)). w.now) words, map-map text (λ (w : Bor (List ℕ)). w.now) (words ++ (word ∷ [])))
    (sym (joined_more (λ (w : Bor (List ℕ)). text w.now) words word))
