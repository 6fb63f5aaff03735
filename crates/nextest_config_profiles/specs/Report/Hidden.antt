-- What values hide.
use Rattle.std.specs.Prelude.{◌≡◌, ℕ, Bool, true, false, List, [], take}
use Rattle.std.specs.List.{AllZip}
use Rattle.nextest_config_profiles.specs.Profile.{chain_in, layers_in}
use Rattle.nextest_config_profiles.specs.Reach.{words_of}
use Rattle.nextest_config_profiles.specs.Said.{Path}
use Rattle.nextest_config_profiles.specs.declared.profile.EffectiveProfile.{EffectiveProfile}
use Rattle.nextest_config_profiles.specs.Report.Literal.{IsLiteralOf}
use Rattle.nextest_config_profiles.specs.Report.Source.{IsSource}
use Rattle.nextest_config_profiles.specs.Report.Standing.{hidden_of, StandingValue}
use Rattle.nextest_config_profiles.specs.declared.report.parts.Hidden.{Hidden}

-- what a layer has at keys, or at the first of them, as it is told
pub record IsHidden (effective : EffectiveProfile) (keys : Path) (standing : StandingValue)
    (hidden : Hidden) : Type 0 where
  pub keys_are : words_of hidden.keys.items ≡ take standing.reached.depth keys
  pub literal_is : IsLiteralOf standing.reached.value hidden.literal
  pub source_is : IsSource effective standing.layer standing.profile
      (take standing.reached.depth keys) hidden.source

-- what lies below a layer at keys of a profile and what later profiles have there, where it is told
abbrev pub AreHidden : EffectiveProfile → Bool → List ℕ → Path → ℕ → List Hidden → Type 0
AreHidden effective true profile keys layer hidden =
    AllZip (IsHidden effective keys)
    (hidden_of (layers_in effective) (chain_in effective) profile keys layer) hidden
AreHidden effective false profile keys layer hidden = hidden ≡ []
