-- The whole of what is told of a profile.
use Rattle.std.specs.Prelude.{Bool, true, false, ◌||◌, List, [], ◌∷◌, map}
use Rattle.std.proofs.Common.{Global, Vec}
use Rattle.std.specs.List.{AllZip, list_any}
use Rattle.nextest_config_profiles.specs.Profile.{chain_in}
use Rattle.nextest_config_profiles.specs.declared.profile.EffectiveProfile.{EffectiveProfile}
use Rattle.nextest_config_profiles.specs.Report.Chain.{IsChainProfile}
use Rattle.nextest_config_profiles.specs.Report.Others.{AreOthers}
use Rattle.nextest_config_profiles.specs.Report.OtherProfiles.{AreOtherProfileFaults}
use Rattle.nextest_config_profiles.specs.Report.Overrides.{AreOverrides}
use Rattle.nextest_config_profiles.specs.Report.Rows.{AreRows}
use Rattle.nextest_config_profiles.specs.Report.Setting.{all_settings}
use Rattle.nextest_config_profiles.specs.declared.report.profile_report.ProfileReport.{ProfileReport}
use Rattle.nextest_config_profiles.specs.declared.report.parts.OtherProfileFault.{OtherProfileFault}
use Rattle.nextest_config_profiles.specs.declared.report.parts.Row.{Row}
use Rattle.nextest_config_profiles.specs.declared.report.parts.KeyState.{KeyState}
use Rattle.nextest_config_profiles.specs.declared.report.parts.KeyState.TheVariants as states

-- the rows of each setting
abbrev pub settings_in : ProfileReport → List (List Row)
settings_in report = map (λ rows. rows.items) report.settings.items

-- this is what is told of a profile, with what its values hide or without
pub record IsReport (effective : EffectiveProfile) (hiding : Bool) (report : ProfileReport) : Type 0
  where
    pub chain : AllZip (IsChainProfile effective) (chain_in effective) report.chain.items
    pub settings : AllZip (AreRows effective hiding) all_settings (settings_in report)
    pub others : AreOthers effective report.others.items
    pub overrides : AreOverrides effective report.overrides.items
    pub other_profiles : AreOtherProfileFaults effective report.other_profiles.items

-- ---- faults

-- a row tells of a fault, or that there is no value
abbrev pub is_fault : KeyState → Bool
is_fault (states.Fault message sources) = true
is_fault (states.NoValue source) = true
is_fault other = false

-- some row of a list tells of a fault, or that there is no value
abbrev pub rows_have_fault : List Row → Bool
rows_have_fault rows = list_any (λ row. is_fault row.state) rows

-- some row of a setting tells of a fault, or that there is no value
abbrev pub have_fault : Vec Row Global → Bool
have_fault rows = rows_have_fault rows.items

-- there is a fault in a list
abbrev pub is_some_list : List OtherProfileFault → Bool
is_some_list [] = false
is_some_list (fault ∷ rest) = true

-- a setting has a fault or no value, or what a profile has for one that it doesn't give has a fault
abbrev pub has_fault : ProfileReport → Bool
has_fault report =
    is_some_list report.other_profiles.items || list_any have_fault report.settings.items
