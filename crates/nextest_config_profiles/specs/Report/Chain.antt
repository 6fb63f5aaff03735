-- The profiles of a chain.
use Rattle.std.specs.Prelude.{◌≡◌, ◌⊎◌, ◌≢◌, ℕ, codes, List, [], ◌∷◌, Option, None}
use Rattle.nextest_config_profiles.specs.Profiles.{default_profile}
use Rattle.nextest_config_profiles.specs.declared.profile.EffectiveProfile.{EffectiveProfile}
use Rattle.nextest_config_profiles.specs.Report.Rows.{IsSourceOf}
use Rattle.nextest_config_profiles.specs.declared.report.parts.ChainProfile.{ChainProfile}
use Rattle.nextest_config_profiles.specs.declared.report.parts.Source.{Source}

-- where it stands what a profile inherits from; `default` inherits from nothing
abbrev pub IsInheritsSource : EffectiveProfile → List ℕ → Option Source → Type 0
IsInheritsSource effective name source = ((name ≡ default_profile) × (source ≡ None))
    ⊎ ((name ≢ default_profile) × IsSourceOf effective name (codes "inherits" ∷ []) source)

-- a profile of the chain, as it is told
pub record IsChainProfile (effective : EffectiveProfile) (name : List ℕ)
    (shown : ChainProfile) : Type 0 where
  pub name_is : shown.name.now ≡ name
  pub inherits_is : IsInheritsSource effective name shown.inherits
