-- What layers have one after the other, with one layer more.
use Rattle.std.proofs.Common.{◌≡◌, ◌∙◌, ◌++◌, ℕ, suc, List, ap, append_assoc, sym}

-- a list with what one layer more has in front
pub layer_more : {X : Type 0} (below : ℕ → List X) (here : ℕ → List X) → ((n : ℕ) → below (suc n) ≡ here n ++ below n) → (layers layer : ℕ) → layers ≡ suc layer
    → (old between new : List X) → between ≡ old ++ here layer → new ≡ between ++ below layer → new ≡ old ++ below layers
layer_more below here step layers layer same old between new first second =
    second ∙ ap (λ front. front ++ below layer) first ∙ append_assoc old (here layer) (below layer)
    ∙ ap (λ rest. old ++ rest) (sym (step layer)) ∙ ap (λ n. old ++ below n) (sym same)
