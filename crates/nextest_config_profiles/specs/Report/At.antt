-- A setting as a profile gives it, and what layers have at its keys.
use Rattle.std.specs.Prelude.{ℕ, Bool, List, ◌∷◌, map, Option}
use Rattle.nextest_config_profiles.specs.LastValue.{IsLastValue}
use Rattle.nextest_config_profiles.specs.Profile.{layers_in}
use Rattle.nextest_config_profiles.specs.Said.{Path, said_at}
use Rattle.nextest_config_profiles.specs.Report.Setting.{SettingRule}
use Rattle.nextest_config_profiles.specs.declared.last_value.LayerValue.{LayerValue}
use Rattle.nextest_config_profiles.specs.declared.profile.EffectiveProfile.{EffectiveProfile}

-- a setting, as a profile of the chain gives it, whether its durations are judged, and whether it
-- is told what a value hides
pub record At : Type 0 where
  pub effective : EffectiveProfile
  pub profile : List ℕ
  pub setting : SettingRule
  pub judged : Bool
  pub hiding : Bool

-- this is what the last layer that says anything of keys of a profile has there
abbrev pub IsLastAt : EffectiveProfile → List ℕ → Path → Option LayerValue → Type 0
IsLastAt effective profile keys =
    IsLastValue (map (said_at (profile ∷ keys)) (layers_in effective))
