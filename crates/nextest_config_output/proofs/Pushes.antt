-- What is pushed for the elements of a list, one after the other.
use Rattle.std.proofs.Common.{◌≡◌, ◌∙◌, ℕ, ◌+◌, ◌<◌, List, [], ◌∷◌, ◌++◌, append_assoc, ap, flat_map, get_or, length, map, sym, take}
use Rattle.std.proofs.lemmas.List.{flat_map_more, map_push, take_more}

-- one more element of a list
next_taken : {X : Type 0} (xs : List X) (i : ℕ) (x : X) → i < length xs → x ≡ get_or xs i x → take (i + 1) xs ≡ take i xs ++ x ∷ []
next_taken xs i x within is = take_more xs i x within ∙ ap (λ y. take i xs ++ y ∷ []) (sym is)

-- several things for each element
pub several_pushed : {B X : Type 0} (reported : X → List B) (old new front : List B) (xs : List X) (i : ℕ) (x : X)
    → i < length xs → x ≡ get_or xs i x → old ≡ front ++ flat_map reported (take i xs) → new ≡ old ++ reported x
    → new ≡ front ++ flat_map reported (take (i + 1) xs)
several_pushed reported old new front xs i x within is so_far more =
    more ∙ ap (λ ys. ys ++ reported x) so_far ∙ flat_map_more reported front (take i xs) x
    ∙ ap (λ ys. front ++ flat_map reported ys) (sym (next_taken xs i x within is))

-- one thing for each element, as it is seen
pub one_pushed : {A B X : Type 0} (seen : A → B) (reported : X → B) (old new : List A) (value : A) (front : List B) (xs : List X) (i : ℕ) (x : X)
    → i < length xs → x ≡ get_or xs i x → map seen old ≡ front ++ map reported (take i xs) → new ≡ old ++ value ∷ [] → seen value ≡ reported x
    → map seen new ≡ front ++ map reported (take (i + 1) xs)
one_pushed seen reported old new value front xs i x within is so_far pushed same =
    ap (map seen) pushed ∙ map_push seen old value ∙ ap (λ y. map seen old ++ y ∷ []) same ∙ ap (λ ys. ys ++ reported x ∷ []) so_far
    ∙ append_assoc front (map reported (take i xs)) (reported x ∷ []) ∙ ap (λ ys. front ++ ys) (sym (map_push reported (take i xs) x))
    ∙ ap (λ ys. front ++ map reported ys) (sym (next_taken xs i x within is))
