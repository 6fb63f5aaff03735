-- What profiles give, from what is laid over one another.
use Rattle.std.proofs.Common.{ℕ, List, [], ◌∷◌, Option, Some, None, MatchOption, inl, inr, refl}
use Rattle.toml.specs.Data.{Data}
use Rattle.nextest_config_values.specs.Read.{Reading}
use Rattle.nextest_config_profiles.specs.Effective.{IsEffective, IsGiven, IsOf, IsRead, Passes}
use Rattle.nextest_config_profiles.specs.Merged.{IsMergedOver, Layers}
use Rattle.nextest_config_profiles.specs.Said.{Path}
use Rattle.nextest_config_profiles.specs.Report.Converted.{IsRestRead}
use Rattle.nextest_config_profiles.specs.Report.Given.{given_of}
use Rattle.nextest_config_profiles.specs.declared.effective.Effective.{Effective}
use Rattle.nextest_config_profiles.specs.declared.effective.Effective.TheVariants as given

module _ {X Y : Type 0} (seen : X → Y) (reading : Reading Data (Option Y)) (layers : Layers) (keys : Path) (profile : List ℕ) (value : Data)
    (merged : IsMergedOver layers (profile ∷ keys) value) where
  pub given_result : (given : Option (Effective X))
      → MatchOption given (reading.means value None) (λ given. IsRead seen reading value given × IsOf profile given)
      → MatchOption given (Passes seen reading layers keys profile) (IsGiven seen reading layers keys profile)
  given_result None none = inr (value, merged, none)
  given_result (Some given) read = record { value = value; merged = merged; read = read.0; of_profile = read.1 }

-- what the first of profiles gives that counts, where that is the profile in front
module _ {X Y : Type 0} (seen : X → Y) (reading : Reading Data (Option Y)) (layers : Layers) (keys : Path) (name : List ℕ) (names : List (List ℕ)) (given : Effective X) where
  pub given_here : IsGiven seen reading layers keys name given → IsEffective seen reading layers keys (name ∷ names) given
  given_here here = inl (record { before = []; profile = name; after = names; whole = refl; passed = tt; given = here })

-- ---- without the value

-- what is read of a value, said without it
pub rest_read : {X Y : Type 0} (seen : X → Y) (reading : Reading Data (Option Y)) (name : List ℕ) (value : Data) (effective : Effective X) → IsRead seen reading value effective → IsOf name effective
    → IsRestRead reading name value (given_of effective)
rest_read seen reading name value (given.Value profile x) read is = (is, (Some (seen x), read))
rest_read seen reading name value (given.NotJudged profile) read is = (is, read)
rest_read seen reading name value (given.Fault profile refused) read is = (is, read)
rest_read seen reading name value given.Nothing read is = absurd read
