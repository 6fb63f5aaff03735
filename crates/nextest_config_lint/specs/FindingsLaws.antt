-- Words of the laws of findings.
use Rattle.std.specs.Prelude.{◌≡◌, ◌≢◌, ◌↔◌, ◌⊎◌, ◌++◌, ℕ, Bool, true, false, IsSome, IsUtf8, List, [], ◌∷◌, Option, Some}
use Rattle.std.specs.List.{AllByRecursion, filter}
use Rattle.toml.specs.Data.{Data, Members}
use Rattle.toml.specs.Parse.{parse_document}
use Rattle.nextest_config_values.specs.Read.Fault.{Fault}
use Rattle.nextest_config_values.specs.Read.{meaning, Reading}
use Rattle.nextest_config_elements.specs.Fields.{features, fields, Parts, versions}
use Rattle.nextest_config_elements.specs.Junit.{junit_fields, junit_reading, JunitTable}
use Rattle.nextest_config_elements.specs.Keys.{feature_fields, version_fields}
use Rattle.nextest_config_elements.specs.LeakTimeout.{leak_timeout_fields, leak_timeout_reading, LeakTimeoutRecord}
use Rattle.nextest_config_elements.specs.MaxFail.{fail_fast_fields, fail_fast_reading}
use Rattle.nextest_config_elements.specs.RetryPolicy.{retries_parts, retry_policy_reading, RetryPolicyRecord}
use Rattle.nextest_config_elements.specs.SlowTimeout.{slow_timeout_fields, slow_timeout_reading, SlowTimeoutRecord}
use Rattle.nextest_config_elements.specs.declared.field.FaultSeverity.TheVariants as of_field
use Rattle.nextest_config_elements.specs.declared.field.Shape.{Shape}
use Rattle.nextest_config_elements.specs.declared.field.Shape.TheVariants as shapes
use Rattle.nextest_config_elements.specs.declared.max_fail.MaxFail.{MaxFail}
use Rattle.toml_spans.specs.Step.{PathStep}
use Rattle.nextest_config.specs.NextestVersion.{features_under, FeatureSetting, ObeysToolRule, Versions, versions_reading}
use Rattle.nextest_config.specs.declared.nextest_version.edition.Edition.{Edition}
use Rattle.nextest_config.specs.declared.nextest_version.source.ConfigSourceKind.{ConfigSourceKind}
use Rattle.toml_spans.specs.Line.{found_in}
use Rattle.nextest_config_lint.specs.File.{whole_path}
use Rattle.nextest_config_lint.specs.Finding.{finding_severity}
use Rattle.nextest_config_lint.specs.Found.{deprecated_array, Found, found_severity, FoundKind, not_toml, not_utf8, refused, tool_names, unjudged, unknown_key, unknown_name, wrong_text}
use Rattle.nextest_config_lint.specs.Settings.{has_default_period, settings_in, settings_of, SettingView}
use Rattle.nextest_config_lint.specs.Subjects.{IsWrong}
use Rattle.nextest_config_lint.specs.Severity.{IsConverted, plain_severity}
use Rattle.nextest_config_lint.specs.Values.{accepted, faulty, IsOutcome, left_open, miswritten, names_features, Outcome}
use Rattle.nextest_config_lint.specs.declared.file.LocatedFinding.{LocatedFinding}
use Rattle.nextest_config_lint.specs.declared.finding.FindingSeverity.TheVariants.{Error}

-- what is found is of no name that refers to another, and of no rule between keys
abbrev pub is_own : FoundKind → Bool
is_own (refused reason severity hint) = true
is_own (wrong_text fault) = true
is_own (tool_names names) = true
is_own (unknown_name name hint) = true
is_own (unknown_key key hint) = true
is_own unjudged = true
is_own (deprecated_array table) = true
is_own not_utf8 = true
is_own (not_toml message mistake) = true
is_own kind = false

-- the findings but for those of references and of rules between keys
abbrev pub own_findings : List Found → List Found
own_findings = filter (λ found. is_own found.kind)

-- the finding is no error
abbrev pub IsNoError : Found → Type 0
IsNoError found = found_severity found.kind ≢ Error

-- the located finding is no error
abbrev pub IsNoLocatedError : LocatedFinding → Type 0
IsNoLocatedError located = finding_severity located.finding.kind ≢ Error

-- the path of the finding, for an unknown key that of the key, leads to a value of the document
abbrev pub LeadsToValue : Members → Found → Type 0
LeadsToValue members found = IsSome (found_in members (whole_path found))

-- the fault is no error: nextest may take the value all the same, or may by its place
abbrev pub IsNoErrorOf : SettingView → Fault → Type 0
IsNoErrorOf setting fault =
    IsConverted setting fault ⊎ (plain_severity setting.severity ≢ Error)

-- what comes of what is judged in a file of this kind is no error: no feature is named, if the file
-- is a tool's, and there is no fault that is one
abbrev pub IsNoErrorBy : ConfigSourceKind → SettingView → Outcome → Type 0
IsNoErrorBy kind setting accepted = Unit {0}
IsNoErrorBy kind setting (names_features value named) = ObeysToolRule kind named.features
IsNoErrorBy kind setting (faulty fault) = IsNoErrorOf setting fault
IsNoErrorBy kind setting (miswritten fault) = Unit {0}
IsNoErrorBy kind setting (left_open fault) = Unit {0}

-- what comes of what is judged under this edition, in a file of this kind, is no error
abbrev pub HasNoErrorAt : Edition → ConfigSourceKind → SettingView → Type 0
HasNoErrorAt edition kind setting = (outcome : Outcome) × IsOutcome edition setting outcome
    × IsNoErrorBy kind setting outcome

-- nothing that is judged in the document has an error
abbrev pub IsWithoutError : Edition → ConfigSourceKind → Members → Type 0
IsWithoutError edition kind members =
    AllByRecursion (HasNoErrorAt edition kind) (settings_of members)

-- the file is UTF-8, and a document in which nothing that is judged has an error
abbrev pub IsFileWithoutError : Edition → ConfigSourceKind → List ℕ → Type 0
IsFileWithoutError edition kind contents =
    IsUtf8 contents
    × ((members : Members) × (parse_document contents ≡ Some members)
    × IsWithoutError edition kind members)

-- ---- of a setting

-- nothing is wrong with what is judged
abbrev pub HasNoFault : Edition → SettingView → Type 0
HasNoFault edition setting = (fault : Fault) → IsWrong edition setting.subject fault → ⊥

-- nothing is wrong with any of these
abbrev pub HaveNoFault : Edition → List SettingView → Type 0
HaveNoFault edition = AllByRecursion (HasNoFault edition)

-- nothing is wrong, key by key, with a value exactly where a reading takes it
abbrev pub IsTakenBy : {X : Type 0} → Reading Data X → Edition → Shape → Parts → List PathStep
    → Data → Type 0
IsTakenBy reading edition shape parts path value =
    HaveNoFault edition (settings_in shape of_field.Error parts path value)
    ↔ (meaning reading).passes value

-- what is wrong with what is judged is this fault of the value at a path: at the same place, for
-- the same cause
pub record IsFaultAt (edition : Edition) (path : List PathStep) (fault : Fault)
    (setting : SettingView) : Type 0 where
  pub reported : Fault
  pub is_wrong : IsWrong edition setting.subject reported
  pub same_place : setting.path ++ reported.steps ≡ path ++ fault.steps
  pub same_cause : reported.cause ≡ fault.cause

-- one of these has this fault of the value at a path
abbrev pub HasFaultAmong : Edition → List PathStep → Fault → List SettingView → Type 0
HasFaultAmong edition path fault [] = ⊥
HasFaultAmong edition path fault (setting ∷ rest) =
    IsFaultAt edition path fault setting ⊎ HasFaultAmong edition path fault rest

-- the fault that a reading finds in a value is found key by key, too
abbrev pub FindsFaultOf : {X : Type 0} → Reading Data X → Edition → Shape → Parts
    → List PathStep → Data → Type 0
FindsFaultOf reading edition shape parts path value = (fault : Fault) → reading.faults value fault
    → HasFaultAmong edition path fault (settings_in shape of_field.Error parts path value)

-- ---- of settings that are judged key by key, and are read whole, too

-- a setting: how it is read under an edition, its shape, what stands in it, and whether nextest's
-- own configuration supplies a key of it at a path
pub record WholeSetting (X : Type 0) : Type 1 where
  pub reading : Edition → Reading Data X
  pub shape : Shape
  pub parts : Parts
  pub is_supplied : List PathStep → Bool

-- no key is supplied, wherever the setting stands
abbrev pub none_supplied : List PathStep → Bool
none_supplied path = false

-- a setting that is read alike under each edition
abbrev pub read_alike : {X : Type 0} → Reading Data X → Shape → Parts → (List PathStep → Bool)
    → WholeSetting X
read_alike reading shape parts is_supplied = record {
  reading = λ edition. reading;
  shape = shape;
  parts = parts;
  is_supplied = is_supplied;
}

abbrev pub versions_setting : WholeSetting Versions
versions_setting =
    read_alike versions_reading shapes.NextestVersion (versions version_fields) none_supplied

abbrev pub features_setting : WholeSetting FeatureSetting
features_setting = record {
  reading = features_under;
  shape = shapes.Experimental;
  parts = features feature_fields;
  is_supplied = none_supplied;
}

abbrev pub retries_setting : WholeSetting (Option RetryPolicyRecord)
retries_setting = read_alike retry_policy_reading shapes.Retries retries_parts none_supplied

abbrev pub slow_timeout_setting : WholeSetting (Option SlowTimeoutRecord)
slow_timeout_setting = read_alike slow_timeout_reading shapes.SlowTimeout
    (fields slow_timeout_fields) has_default_period

abbrev pub leak_timeout_setting : WholeSetting (Option LeakTimeoutRecord)
leak_timeout_setting = read_alike leak_timeout_reading shapes.LeakTimeout
    (fields leak_timeout_fields) has_default_period

abbrev pub fail_fast_setting : WholeSetting (Option MaxFail)
fail_fast_setting =
    read_alike fail_fast_reading shapes.FailFast (fields fail_fast_fields) none_supplied

abbrev pub junit_setting : WholeSetting JunitTable
junit_setting = read_alike junit_reading shapes.Table (fields junit_fields) none_supplied

-- this holds of each value of a setting, where nextest's own configuration supplies no key of it
abbrev pub HoldsOfEach : {X : Type 0}
    → (Reading Data X → Edition → Shape → Parts → List PathStep → Data → Type 0) → WholeSetting X
    → Type 0
HoldsOfEach Holds setting = (edition : Edition) (path : List PathStep) (value : Data)
    → setting.is_supplied path ≡ false
    → Holds (setting.reading edition) edition setting.shape setting.parts path value

-- nothing is wrong, key by key, with a value of a setting exactly where its reading takes it
abbrev pub IsTakenWhole : {X : Type 0} → WholeSetting X → Type 0
IsTakenWhole = HoldsOfEach IsTakenBy

-- the fault that the reading of a setting finds in a value is found key by key, too
abbrev pub FindsItsFault : {X : Type 0} → WholeSetting X → Type 0
FindsItsFault = HoldsOfEach FindsFaultOf
