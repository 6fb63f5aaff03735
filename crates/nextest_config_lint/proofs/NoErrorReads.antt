-- A document of which only warnings are found asks something.
use Rattle.std.specs.Prelude.{◌≡◌, ℕ, suc, List, [], ◌∷◌, ◌++◌, codes, Option, Some, None}
use Rattle.std.proofs.Common.{ap, inl, inr, refl, rules, subst}
use Rattle.std.specs.List.{AllByRecursion}
use Rattle.toml.specs.Data.{array, boolean, Data, get_member, item, Items, Members, no_items, string, table}
use Rattle.toml.specs.Parse.{parse_document}
use Rattle.toml_spans.proofs.Elements.{all_joined, all_left, all_right}
use Rattle.nextest_config_values.specs.Read.Fault.{Fault}
use Rattle.nextest_config_values.specs.Read.{bool_reading, either, fault_here, for_reason, meaning, Reading, Reason}
use Rattle.nextest_config.specs.NextestVersion.{Ask, experimental_key, features_under, FeatureSetting, no_feature_setting, no_versions, ObeysToolRule, TextAsks, version_key, version_reading, version_text, Versions, versions_reading}
use Rattle.nextest_config.specs.declared.nextest_version.edition.Edition.{Edition}
use Rattle.nextest_config.specs.declared.nextest_version.edition.Edition.TheVariants.{ArrayAllowed, TableOnly}
use Rattle.nextest_config.specs.declared.nextest_version.source.ConfigSourceKind.{ConfigSourceKind}
use Rattle.nextest_config_elements.specs.Fields.{allowed, features, nothing, Parts, versions}
use Rattle.nextest_config_elements.specs.Keys.{feature_fields, version_fields}
use Rattle.nextest_config_elements.specs.declared.field.FaultSeverity.TheVariants as of_field
use Rattle.nextest_config_elements.specs.declared.field.Shape.{Shape}
use Rattle.nextest_config_elements.specs.declared.field.Shape.TheVariants.{Boolean, Experimental, FeatureName, NextestVersion, VersionText}
use Rattle.toml_spans.specs.Step.{index, key, PathStep}
use Rattle.nextest_config_lint.proofs.FaultsOf.{AllFaults, no_fault}
use Rattle.nextest_config_lint.proofs.NoErrors.{no_error_in}
use Rattle.nextest_config_lint.proofs.SettingsRead.{features_taken, versions_taken}
use Rattle.nextest_config_lint.proofs.Subjects.{named_not_wrong, never_wrong}
use Rattle.nextest_config_lint.specs.Defined.{ListFile}
use Rattle.nextest_config_lint.specs.Document.{AreFindings}
use Rattle.nextest_config_lint.specs.Faults.{IsNoDuration}
use Rattle.nextest_config_lint.specs.FindingsLaws.{HasNoErrorAt, HasNoFault, HaveNoFault, IsNoError}
use Rattle.nextest_config_lint.specs.Found.{Found}
use Rattle.nextest_config_lint.specs.Settings.{a_value, at_items, at_key, features_at, in_array, in_table, setting_at, settings_in, settings_of_fields, SettingView, with_parts}
use Rattle.nextest_config_lint.specs.Severity.{plain_severity}
use Rattle.nextest_config_lint.specs.Shapes.{feature_name_check, features_check, or_table, shape_check}
use Rattle.nextest_config_lint.specs.Subjects.{IsLeftOpen, IsWrong}
use Rattle.nextest_config_lint.specs.Values.{accepted, faulty, left_open, miswritten, names_features}

-- what a reading means by a value, or else the default
abbrev MeansOr : {X : Type 0} → Reading Data X → X → Option Data → X → Type 0
MeansOr reading default found = either found (λ value. reading.means value) (λ x. x ≡ default)

-- what isn't judged is a duration, which no fault of these is
abbrev NeverOpen : Edition → SettingView → Type 0
NeverOpen edition setting = (fault : Fault) → IsWrong edition setting.subject fault → IsLeftOpen setting.subject fault → ⊥

-- nothing is wrong where what is wrong would be an error
well_right : (edition : Edition) (kind : ConfigSourceKind) (setting : SettingView) → setting.severity ≡ of_field.Error → NeverOpen edition setting → HasNoErrorAt edition kind setting
    → HasNoFault edition setting
well_right edition kind setting grave never (accepted, is, none) fault wrong = never_wrong edition setting.subject fault is.0 wrong
well_right edition kind setting grave never (miswritten text, is, none) fault wrong = never_wrong edition setting.subject fault is.0 wrong
well_right edition kind setting grave never (names_features value named, is, none) fault wrong = named_not_wrong edition setting.subject value named fault is wrong
well_right edition kind setting grave never (faulty other, is, inl converted) fault wrong = cc (grave, converted.0)
well_right edition kind setting grave never (faulty other, is, inr below) fault wrong = below (ap plain_severity grave)
well_right edition kind setting grave never (left_open other, is, none) fault wrong = never other is.0 is.1

-- what is judged is as grave as an error, and none of it is left open
abbrev IsSure : Edition → SettingView → Type 0
IsSure edition setting = (setting.severity ≡ of_field.Error) × NeverOpen edition setting

all_right_where : (edition : Edition) (kind : ConfigSourceKind) (settings : List SettingView) → AllByRecursion (IsSure edition) settings → AllByRecursion (HasNoErrorAt edition kind) settings
    → HaveNoFault edition settings
all_right_where edition kind [] sure well = tt
all_right_where edition kind (setting ∷ settings) sure well =
    (well_right edition kind setting sure.0.0 sure.0.1 well.0, all_right_where edition kind settings sure.1 well.1)

-- ---- no fault of these is that of a duration

abbrev IsOther : Fault → Type 0
IsOther fault = IsNoDuration fault.cause → ⊥

reported : (reason : Reason) → AllFaults IsOther (λ fault. fault ≡ fault_here (for_reason reason))
reported reason fault is (found, of_duration) = cc (ap (λ (f : Fault). f.cause) is, of_duration)

version_held : (held : List ℕ) → AllFaults IsOther (version_text.faults held)
version_held held fault (rule, broken, is) = reported _ fault is

version : (value : Data) → AllFaults IsOther (version_reading.faults value)
version (string held) = version_held held
version value = reported _

versions_value : (value : Data) → AllFaults IsOther ((or_table (meaning versions_reading)).faults value)
versions_value (table held) = no_fault IsOther
versions_value (string held) = version_held held
versions_value value = reported _

truth : (value : Data) → AllFaults IsOther (bool_reading.faults value)
truth (boolean held) = no_fault IsOther
truth value = reported _

feature_name : (edition : Edition) (value : Data) → AllFaults IsOther ((feature_name_check edition).faults value)
feature_name ArrayAllowed (string held) = no_fault IsOther
feature_name ArrayAllowed value = reported _
feature_name TableOnly value = no_fault IsOther

features_value : (edition : Edition) (value : Data) → AllFaults IsOther ((features_check edition).faults value)
features_value ArrayAllowed (table held) = no_fault IsOther
features_value ArrayAllowed (array items) = no_fault IsOther
features_value ArrayAllowed value = reported _
features_value TableOnly (table held) = no_fault IsOther
features_value TableOnly value = reported _

module _ (edition : Edition) where
  value_sure : (path : List PathStep) (shape : Shape) (parts : Parts) (value : Data) → AllFaults IsOther ((shape_check edition shape).faults value)
      → IsSure edition (setting_at of_field.Error path (a_value shape parts value))
  value_sure path shape parts value other = (refl, λ fault wrong open_form. other fault wrong open_form.0)

  key_sure : (name : List ℕ) (shape : Shape) (path : List PathStep) → ((value : Data) → AllFaults IsOther ((shape_check edition shape).faults value)) → (found : Option Data)
      → AllByRecursion (IsSure edition) (at_key of_field.Error (allowed name shape of_field.Error) (λ grave. settings_in shape grave nothing) path found)
  key_sure name shape path other None = tt
  key_sure name shape path other (Some value) = (value_sure (path ++ (key name ∷ [])) shape nothing value (other value), tt)

  -- ---- `nextest-version`

  version_fields_sure : (path : List PathStep) (held : Members) → AllByRecursion (IsSure edition) (settings_of_fields version_fields of_field.Error path held)
  version_fields_sure path held =
      all_joined (IsSure edition) _ _ (key_sure (codes "required") VersionText path version (get_member (codes "required") held))
      (all_joined (IsSure edition) _ _ (key_sure (codes "recommended") VersionText path version (get_member (codes "recommended") held)) tt)

  versions_sure : (path : List PathStep) (value : Data) → AllByRecursion (IsSure edition) (settings_in NextestVersion of_field.Error (versions version_fields) path value)
  versions_sure path (table held) = (
    value_sure path NextestVersion (versions version_fields) (table held) (versions_value (table held)),
    all_joined (IsSure edition) (settings_of_fields version_fields of_field.Error path held) _ (version_fields_sure path held) ((refl, λ fault wrong left. left), tt),
  )
  versions_sure path value = (value_sure path NextestVersion (versions version_fields) value (versions_value value), tt)

  versions_asked : (kind : ConfigSourceKind) (found : Option Data)
      → AllByRecursion (HasNoErrorAt edition kind) (at_key of_field.Error (allowed version_key NextestVersion of_field.Error) (λ grave. settings_in NextestVersion grave (versions version_fields)) [] found)
      → (asked : Versions) × MeansOr versions_reading no_versions found asked
  versions_asked kind None well = (no_versions, refl)
  versions_asked kind (Some value) well =
      let path = key version_key ∷ [] in
      (versions_taken edition path value).0 (all_right_where edition kind (settings_in NextestVersion of_field.Error (versions version_fields) path value) (versions_sure path value) well)

  -- ---- `experimental`

  feature_fields_sure : (path : List PathStep) (held : Members) → AllByRecursion (IsSure edition) (settings_of_fields feature_fields of_field.Error path held)
  feature_fields_sure path held =
      all_joined (IsSure edition) _ _ (key_sure (codes "setup-scripts") Boolean path truth (get_member (codes "setup-scripts") held))
      (all_joined (IsSure edition) _ _ (key_sure (codes "wrapper-scripts") Boolean path truth (get_member (codes "wrapper-scripts") held))
      (all_joined (IsSure edition) _ _ (key_sure (codes "benchmarks") Boolean path truth (get_member (codes "benchmarks") held)) tt))

  elements_sure : (path : List PathStep) (first : ℕ) (items : Items) → AllByRecursion (IsSure edition) (at_items (with_parts FeatureName of_field.Error nothing (λ path value. [])) path first items)
  elements_sure path first no_items = tt
  elements_sure path first (item value rest) = (value_sure (path ++ (index first ∷ [])) FeatureName nothing value (feature_name edition value), elements_sure path (suc first) rest)

  features_sure : (path : List PathStep) (value : Data) → AllByRecursion (IsSure edition) (settings_in Experimental of_field.Error (features feature_fields) path value)
  features_sure path (table held) = (
    value_sure path Experimental (features feature_fields) (table held) (features_value edition (table held)),
    all_joined (IsSure edition) (settings_of_fields feature_fields of_field.Error path held) _ (feature_fields_sure path held) ((refl, λ fault wrong left. left), tt),
  )
  features_sure path (array items) = (
    value_sure path Experimental (features feature_fields) (array items) (features_value edition (array items)),
    all_joined (IsSure edition) (at_items (with_parts FeatureName of_field.Error nothing (λ path value. [])) path 0 items) _ (elements_sure path 0 items) ((refl, λ fault wrong left. left), tt),
  )
  features_sure path value = (value_sure path Experimental (features feature_fields) value (features_value edition value), ((refl, λ fault wrong left. left), tt))

  -- the features that are asked, by a file that may name them
  record AskedFeatures (kind : ConfigSourceKind) (found : Option Data) : Type 0 where
    named : FeatureSetting
    of_features : MeansOr (features_under edition) no_feature_setting found named
    of_tool : ObeysToolRule kind named.features

  names_well : (kind : ConfigSourceKind) (path : List PathStep) (value : Data) → ((named : FeatureSetting) × (features_under edition).means value named)
      → HasNoErrorAt edition kind (setting_at of_field.Error path (features_at value)) → AskedFeatures kind (Some value)
  names_well kind path value (named, means) (accepted, ((fault, wrong), sound), none) = absurd ((features_under edition).law.never_both value named fault means wrong)
  names_well kind path value taken (names_features other named, (same, means), obeys) =
      let same_value : other ≡ value = cc same in
      record { named = named; of_features = subst (λ (it : Data). (features_under edition).means it named) same_value means; of_tool = obeys }
  names_well kind path value taken (faulty fault, is, none) = absurd is.0
  names_well kind path value taken (miswritten fault, is, none) = absurd is.1
  names_well kind path value taken (left_open fault, is, none) = absurd is.0

  features_asked : (kind : ConfigSourceKind) (found : Option Data)
      → AllByRecursion (HasNoErrorAt edition kind) (at_key of_field.Error (allowed experimental_key Experimental of_field.Error) (λ grave. settings_in Experimental grave (features feature_fields)) [] found)
      → AskedFeatures kind found
  features_asked kind None well = record { named = no_feature_setting; of_features = refl; of_tool = search rules }
  features_asked kind (Some value) well =
      let path = key experimental_key ∷ [] in
      let right = all_right_where edition kind (settings_in Experimental of_field.Error (features feature_fields) path value) (features_sure path value) well in
      let last = all_right (HasNoErrorAt edition kind) (in_array (λ path. at_items (with_parts FeatureName of_field.Error nothing (λ path value. [])) path 0) path value) _
      (all_right (HasNoErrorAt edition kind) (in_table (settings_of_fields feature_fields of_field.Error) path value) _ well.1) in
      names_well kind path value ((features_taken edition path value).0 right) last.0

-- ---- the document

pub no_error_reads : (edition : Edition) (kind : ConfigSourceKind) (files : List ListFile) (position : ℕ) (text : List ℕ) (members : Members) (all_found : List Found)
    → parse_document text ≡ Some members → AreFindings edition kind files position members all_found → AllByRecursion IsNoError all_found
    → (ask : Ask) × TextAsks edition kind (Some text) ask
no_error_reads edition kind files position text members all_found is are warned =
    let well = (no_error_in edition kind files position members all_found are).0 warned in
    let of_versions = versions_asked edition kind (get_member version_key members) (all_left (HasNoErrorAt edition kind) _ _ well) in
    let rest = all_right (HasNoErrorAt edition kind)
    (at_key of_field.Error (allowed version_key NextestVersion of_field.Error) (λ grave. settings_in NextestVersion grave (versions version_fields)) [] (get_member version_key members)) _ well in
    let asked = features_asked edition kind (get_member experimental_key members) (all_left (HasNoErrorAt edition kind) _ _ rest) in (
      record { versions = of_versions.0; features = asked.named.features; array = asked.named.array },
      (members, is, record { of_versions = of_versions.1; of_features = asked.of_features; of_tool = asked.of_tool }),
    )
