-- Faults of settings in other profiles than the one that gives the setting.
use Rattle.std.specs.Prelude.{◌≡◌, ◌⊎◌, ◌≢◌, ℕ, if◌then◌else◌, List, [], ◌∷◌, Option, Some, None, string_bytes}
use Rattle.nextest_config_values.specs.Read.{fault_of}
use Rattle.nextest_config_values.specs.declared.read.value_fault.ValueFault.{ValueFault}
use Rattle.nextest_config_elements.specs.declared.field.FaultSeverity.{FaultSeverity}
use Rattle.nextest_config_profiles.specs.Layer.{profiles_in}
use Rattle.nextest_config_profiles.specs.NameList.{AreInOrder, AreNamesOf}
use Rattle.nextest_config_profiles.specs.Profile.{chain_in, files_in}
use Rattle.nextest_config_profiles.specs.Reach.{words_of}
use Rattle.nextest_config_profiles.specs.declared.profile.EffectiveProfile.{EffectiveProfile}
use Rattle.nextest_config_profiles.specs.Report.Given.{IsGivenFor}
use Rattle.nextest_config_profiles.specs.Report.Rows.{ArePlacesOf, IsMessage}
use Rattle.nextest_config_profiles.specs.Report.Setting.{all_settings, SettingRule}
use Rattle.nextest_config_profiles.specs.Report.Somes.{AreLists, AreSomes}
use Rattle.nextest_config_profiles.specs.Report.Written.{is_documented}
use Rattle.nextest_config_profiles.specs.declared.report.given.Given.{Given}
use Rattle.nextest_config_profiles.specs.declared.report.given.Given.TheVariants as given
use Rattle.nextest_config_profiles.specs.declared.report.parts.OtherProfileFault.{OtherProfileFault}

-- the profile by which this is given, if anything is
abbrev pub giver_of : Given → Option (List ℕ)
giver_of (given.Value profile) = Some profile.now
giver_of (given.NotJudged profile) = Some profile.now
giver_of (given.Fault profile fault) = Some profile.now
giver_of given.Nothing = None

-- the profile that gives a setting, if one does
abbrev pub IsGiver : EffectiveProfile → SettingRule → Option (List ℕ) → Type 0
IsGiver effective setting giver = (given : Given)
    × IsGivenFor effective (chain_in effective) setting given × (giver ≡ giver_of given)

-- a fault of what a profile has for a setting, as it is told
pub record IsOtherProfileFault (effective : EffectiveProfile) (setting : SettingRule)
    (profile : List ℕ) (refused : ValueFault) (fault : OtherProfileFault) : Type 0 where
  pub of_profile : fault.profile.now ≡ profile
  pub keys_are : words_of fault.keys.items ≡ setting.keys
  pub message_is : IsMessage (fault_of refused) (string_bytes fault.message)
  pub sources_are : ArePlacesOf effective profile setting fault.sources.items

-- what is told where a profile alone has this for a setting
abbrev pub IsGivenFault : EffectiveProfile → SettingRule → List ℕ → Given → Option OtherProfileFault
    → Type 0
IsGivenFault effective setting profile (given.Fault of_it refused) None = ⊥
IsGivenFault effective setting profile (given.Fault of_it refused) (Some fault) =
    IsOtherProfileFault effective setting profile refused fault
IsGivenFault effective setting profile other fault = fault ≡ None

-- what is wrong with what a profile alone has for a setting
abbrev pub IsFaultIf : EffectiveProfile → SettingRule → List ℕ → Option OtherProfileFault → Type 0
IsFaultIf effective setting profile fault = (given : Given)
    × IsGivenFor effective (profile ∷ []) setting given
    × IsGivenFault effective setting profile given fault

-- what is wrong with a setting of a profile, which is passed over where it gives the setting
abbrev pub IsFaultOf : EffectiveProfile → SettingRule → Option (List ℕ) → List ℕ
    → Option OtherProfileFault → Type 0
IsFaultOf effective setting giver profile fault = ((giver ≡ Some profile) × (fault ≡ None))
    ⊎ ((giver ≢ Some profile) × IsFaultIf effective setting profile fault)

-- of these names of profiles those whose values of a setting may be refused: none, where no reader
-- reads it
abbrev pub names_judged : FaultSeverity → List (List ℕ) → List (List ℕ)
names_judged severity names = if is_documented severity then [] else names

-- what is wrong with a setting of all profiles but the one that gives it, in the order of these
-- names
pub record AreFaultsOf (effective : EffectiveProfile) (names : List (List ℕ))
    (setting : SettingRule) (faults : List OtherProfileFault) : Type 0 where
  pub giver : Option (List ℕ)
  pub is_giver : IsGiver effective setting giver
  pub are_faults : AreSomes (IsFaultOf effective setting giver)
      (names_judged setting.rule.severity names) faults

-- what is wrong with settings of all profiles but the one that gives each, setting by setting
pub record AreOtherProfileFaults (effective : EffectiveProfile) (faults : List OtherProfileFault) :
    Type 0 where
  pub names : List (List ℕ)
  pub are_names : AreNamesOf (profiles_in (files_in effective)) names
  pub in_order : AreInOrder names
  pub are_faults : AreLists (AreFaultsOf effective names) all_settings faults
