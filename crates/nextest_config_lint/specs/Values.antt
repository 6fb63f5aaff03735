-- What comes of what is judged, and what is found by that.
use Rattle.std.specs.Prelude.{◌≡◌, ◌⊎◌, List, [], ◌∷◌, ◌++◌, Option, Some}
use Rattle.toml.specs.Data.{Data}
use Rattle.nextest_config_values.specs.Read.Fault.{Fault}
use Rattle.nextest_config_filters.specs.Fault.{Fault as TextFault}
use Rattle.nextest_config.specs.NextestVersion.{FeatureSetting}
use Rattle.nextest_config.specs.declared.nextest_version.edition.Edition.{Edition}
use Rattle.nextest_config.specs.declared.nextest_version.source.ConfigSourceKind.{ConfigSourceKind}
use Rattle.nextest_config_lint.specs.Faults.{IsFoundOf}
use Rattle.nextest_config_lint.specs.Features.{AreNamedFound, array_notes}
use Rattle.nextest_config_lint.specs.Found.{AreFoundOf, Found, found_at, Reports, ReportsSome, unjudged, wrong_text}
use Rattle.nextest_config_lint.specs.Settings.{SettingView}
use Rattle.nextest_config_lint.specs.Subjects.{IsLeftOpen, IsRight, IsWrong, NamesFeatures}
use Rattle.nextest_config_lint.specs.Texts.{HasNoTextFault, IsTextFault}
use Rattle.nextest_config_lint.specs.declared.values.ValueFindings.{ValueFindings}

-- what comes of what is judged: nothing is wrong; a value names features; something is wrong, or
-- with the syntax of a text; or it is a duration that isn't judged
pub data Outcome : Type 0 where
  accepted : Outcome
  names_features : Data → FeatureSetting → Outcome
  faulty : Fault → Outcome
  miswritten : TextFault → Outcome
  left_open : Fault → Outcome

-- this comes of what is judged under an edition
abbrev pub IsOutcome : Edition → SettingView → Outcome → Type 0
IsOutcome edition setting accepted =
    IsRight edition setting.subject × HasNoTextFault setting.subject
IsOutcome edition setting (names_features value named) =
    NamesFeatures edition setting.subject value named
IsOutcome edition setting (faulty fault) =
    IsWrong edition setting.subject fault × (IsLeftOpen setting.subject fault → ⊥)
IsOutcome edition setting (miswritten fault) =
    IsRight edition setting.subject × IsTextFault setting.subject fault
IsOutcome edition setting (left_open fault) =
    IsWrong edition setting.subject fault × IsLeftOpen setting.subject fault

-- ---- what is found by an outcome

-- what is wrong
abbrev pub AreFaults : SettingView → Outcome → List Found → Type 0
AreFaults setting (faulty fault) all_found =
    (found : Found) × IsFoundOf setting fault found × (all_found ≡ found ∷ [])
AreFaults setting (miswritten fault) all_found =
    all_found ≡ found_at setting.path (wrong_text fault) ∷ []
AreFaults setting outcome all_found = all_found ≡ []

-- what is found of the features that a value names
abbrev pub AreFeatures : ConfigSourceKind → SettingView → Outcome → List Found → Type 0
AreFeatures kind setting (names_features value named) all_found =
    AreNamedFound kind setting.path value named.features all_found
AreFeatures kind setting outcome all_found = all_found ≡ []

-- what isn't judged, or is to change one day
abbrev pub notes_of : ConfigSourceKind → SettingView → Outcome → List Found
notes_of kind setting (left_open fault) = found_at (setting.path ++ fault.steps) unjudged ∷ []
notes_of kind setting (names_features value named) = array_notes kind setting.path named
notes_of kind setting outcome = []

-- the notes are these
abbrev pub AreNotes : ConfigSourceKind → SettingView → Outcome → List Found → Type 0
AreNotes kind setting outcome all_found = all_found ≡ notes_of kind setting outcome

-- ---- what is found of what is judged

-- this is found by what comes of it
abbrev pub AreFoundBy : Edition → SettingView → (Outcome → List Found → Type 0) → List Found
    → Type 0
AreFoundBy edition setting Are all_found = (outcome : Outcome) × IsOutcome edition setting outcome
    × Are outcome all_found

-- what is wrong
abbrev pub AreFaultsFound : Edition → SettingView → List Found → Type 0
AreFaultsFound edition setting = AreFoundBy edition setting (AreFaults setting)

-- what is found of the features that are named
abbrev pub AreFeaturesFound : Edition → ConfigSourceKind → SettingView → List Found → Type 0
AreFeaturesFound edition kind setting = AreFoundBy edition setting (AreFeatures kind setting)

-- the notes
abbrev pub AreNotesFound : Edition → ConfigSourceKind → SettingView → List Found → Type 0
AreNotesFound edition kind setting = AreFoundBy edition setting (AreNotes kind setting)

-- the findings report what is found by this outcome
pub record ReportsOutcome (kind : ConfigSourceKind) (setting : SettingView) (outcome : Outcome)
    (found : ValueFindings) : Type 0 where
  pub faults : ReportsSome (AreFaults setting outcome) found.faults
  pub features : ReportsSome (AreFeatures kind setting outcome) found.features
  pub notes : Reports found.notes.items (notes_of kind setting outcome)

-- nothing is found
pub record IsEmpty (found : ValueFindings) : Type 0 where
  pub faults : found.faults.items ≡ []
  pub features : found.features.items ≡ []
  pub notes : found.notes.items ≡ []

-- the findings report what is found of what is judged
abbrev pub ReportsValue : Edition → ConfigSourceKind → SettingView → ValueFindings → Type 0
ReportsValue edition kind setting found = (outcome : Outcome) × IsOutcome edition setting outcome
    × ReportsOutcome kind setting outcome found

-- what a fault comes to
abbrev pub IsFaultOutcome : SettingView → Fault → Outcome → Type 0
IsFaultOutcome setting fault outcome =
    (IsLeftOpen setting.subject fault × (outcome ≡ left_open fault))
    ⊎ ((IsLeftOpen setting.subject fault → ⊥) × (outcome ≡ faulty fault))

-- the findings report what is found of this fault
abbrev pub ReportsFault : SettingView → Option Fault → ValueFindings → Type 0
ReportsFault setting seen found = (fault : Fault) × (outcome : Outcome) × (seen ≡ Some fault)
    × IsFaultOutcome setting fault outcome
    × ((kind : ConfigSourceKind) → ReportsOutcome kind setting outcome found)

-- what a text comes to where it has its shape
abbrev pub IsTextOutcome : SettingView → Outcome → Type 0
IsTextOutcome setting accepted = HasNoTextFault setting.subject
IsTextOutcome setting (miswritten fault) = IsTextFault setting.subject fault
IsTextOutcome setting outcome = ⊥

-- the findings report what is found of the syntax of a text
abbrev pub ReportsText : SettingView → ValueFindings → Type 0
ReportsText setting found = (outcome : Outcome) × IsTextOutcome setting outcome
    × ((kind : ConfigSourceKind) → ReportsOutcome kind setting outcome found)

-- the findings report what is found of each
pub record ReportsValues (edition : Edition) (kind : ConfigSourceKind) (settings : List SettingView)
    (found : ValueFindings) : Type 0 where
  pub faults : ReportsSome (AreFoundOf (AreFaultsFound edition) settings) found.faults
  pub features : ReportsSome (AreFoundOf (AreFeaturesFound edition kind) settings) found.features
  pub notes : ReportsSome (AreFoundOf (AreNotesFound edition kind) settings) found.notes
