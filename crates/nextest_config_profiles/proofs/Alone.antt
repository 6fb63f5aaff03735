-- Each of the profiles that were looked up is looked up.
use Rattle.std.proofs.Common.{◌≡◌, ◌<◌, ℕ, zero, suc, List, [], ◌∷◌, arith, get_or, length, subst, sym}
use Rattle.nextest_config_profiles.specs.Merged.{Layers}
use Rattle.nextest_config_profiles.specs.Profile.{AreLookedUp, IsLookedUp}
use Rattle.nextest_config_profiles.specs.declared.profile_alone.ProfileAlone.{ProfileAlone}

pub looked_up_at : (layers : Layers) (profiles : List ProfileAlone) (i : ℕ) (profile : ProfileAlone) → i < length profiles → profile ≡ get_or profiles i profile → AreLookedUp layers profiles → IsLookedUp layers profile
looked_up_at layers [] i profile within here all = absurd (omega (arith, within))
looked_up_at layers (first ∷ rest) zero profile within here all = subst (IsLookedUp layers) (sym here) all.0
looked_up_at layers (first ∷ rest) (suc i) profile within here all = looked_up_at layers rest i profile (omega (arith, within)) here all.1
