-- The last of what layers say, with one more layer.
use Rattle.std.proofs.Common.{◌≡◌, ℕ, List, [], ◌∷◌, ◌++◌, length, Option, Some, None, refl, ap, ◌∙◌, inl, inr, append_assoc}
use Rattle.toml_spans.proofs.Elements.{all_joined}
use Rattle.nextest_config_profiles.specs.LastValue.{IsLastValue}
use Rattle.nextest_config_profiles.specs.Said.{barred, Said, silent}
use Rattle.nextest_config_profiles.specs.Selection.{IsLast}
use Rattle.nextest_config_profiles.specs.declared.last_value.LayerValue.{LayerValue}

-- a silent one changes nothing
pub still_last : (all : List Said) (position : ℕ) (said : Said) → IsLast all position said → IsLast (all ++ silent ∷ []) position said
still_last all position said last = record {
  below = last.below;
  above = last.above ++ silent ∷ [];
  whole = ap (λ xs. xs ++ silent ∷ []) last.whole ∙ append_assoc last.below (said ∷ last.above) (silent ∷ []);
  place = last.place;
  silent_above = all_joined (λ other. other ≡ silent) last.above (silent ∷ []) last.silent_above (refl, tt);
}

pub last_still : (all : List Said) (last : Option LayerValue) → IsLastValue all last → IsLastValue (all ++ silent ∷ []) last
last_still all None (inl none) = inl (all_joined (λ said. said ≡ silent) all (silent ∷ []) none (refl, tt))
last_still all None (inr (position, last)) = inr (position, still_last all position barred last)
last_still all (Some found) last = still_last all found.layer _ last

-- any other is the last
pub new_last : (all : List Said) (said : Said) → IsLast (all ++ said ∷ []) (length all) said
new_last all said = record { below = all; above = []; whole = refl; place = refl; silent_above = tt }
