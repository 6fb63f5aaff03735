-- Texts that are joined.
use Rattle.std.proofs.Common.{◌≡◌, ℕ, List, [], ◌∷◌, ◌++◌, ap, flat_map, map, refl}
use Rattle.std.specs.List.{join_by}

-- texts are joined as what they are
module _ {X : Type 0} (seen : X → List ℕ) (separator : List ℕ) where
  flat_texts : (texts : List X) → flat_map (λ text. separator ++ seen text) texts ≡ flat_map (λ text. separator ++ text) (map seen texts)
  flat_texts [] = refl
  flat_texts (text ∷ texts) = ap (λ rest. (separator ++ seen text) ++ rest) (flat_texts texts)

  pub join_texts : (texts : List X) → join_by seen separator texts ≡ join_by (λ text. text) separator (map seen texts)
  join_texts [] = refl
  join_texts (text ∷ texts) = ap (λ rest. seen text ++ rest) (flat_texts texts)
