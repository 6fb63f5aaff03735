-- What a list of files defines, and which of its profiles come back to themselves.
use Rattle.std.specs.Prelude.{◌≡◌, ◌≢◌, ◌⊎◌, ◌↔◌, ℕ, false, true, zero, suc, List, [], ◌∷◌, ◌++◌, codes, Contains, IsSome, IsTrue, length, map, Option, Some, None, option_and_then, option_map, string_bytes}
use Rattle.std.specs.BTreeMap.{get_by_text}
use Rattle.std.specs.List.{AllByRecursion}
use Rattle.toml.specs.Data.{as_str, as_table, Data, get_member, Members}
use Rattle.toml.specs.View.{table_view}
use Rattle.nextest_config_values.specs.Identifier.{IsIdentifier}
use Rattle.nextest_config_values.specs.Read.Fault.{Fault}
use Rattle.nextest_config.specs.NextestVersion.{experimental_key, FeatureSetting, features_under, TextsInOrder}
use Rattle.nextest_config.specs.declared.nextest_version.edition.Edition.{Edition}
use Rattle.nextest_config.specs.declared.nextest_version.edition.Edition.TheVariants.{ArrayAllowed, TableOnly}
use Rattle.nextest_config.specs.declared.nextest_version.experimental.ConfigExperimental.{ConfigExperimental}
use Rattle.nextest_config.specs.declared.nextest_version.experimental.ConfigExperimental.TheVariants.{SetupScripts, WrapperScripts}
use Rattle.nextest_config.specs.declared.nextest_version.source.ConfigSourceKind.{ConfigSourceKind}
use Rattle.nextest_config.specs.declared.nextest_version.source.ConfigSourceKind.TheVariants.{DiscoveredRepository, ExplicitRepository, Tool}
use Rattle.nextest_config_lint.specs.Settings.{names_of}
use Rattle.nextest_config_lint.specs.declared.defined.Defined.{Defined}
use Rattle.nextest_config_lint.specs.declared.defined.ListedFile.{ListedFile}
use Rattle.nextest_config_lint.specs.declared.defined.NameKind.{NameKind}
use Rattle.nextest_config_lint.specs.declared.defined.NameKind.TheVariants as kinds
use Rattle.nextest_config_lint.specs.declared.list_features.ListFeatures.{ListFeatures}
use Rattle.nextest_config_elements.specs.declared.named.NamedKind.{NamedKind}
use Rattle.nextest_config_elements.specs.declared.named.NamedKind.TheVariants.{Group, Script}
use Rattle.nextest_config_elements.specs.declared.named.ScriptKind.{ScriptKind}
use Rattle.nextest_config_elements.specs.declared.named.ScriptKind.TheVariants.{Setup, Wrapper}

-- ---- the files of a list

-- a file of a list: whose it is, and its document, if it is one
pub record ListFile : Type 0 where
  pub kind : ConfigSourceKind
  pub document : Option Members

-- the file of a list that is of this kind and has this document
abbrev pub file_with : ConfigSourceKind → Option Members → ListFile
file_with kind document = record { kind = kind; document = document }

-- this holds of some element of a list
abbrev pub SomeOf : {A : Type 0} → (A → Type 0) → List A → Type 0
SomeOf P [] = ⊥
SomeOf P (x ∷ xs) = P x ⊎ SomeOf P xs

-- the table at a key of a table
abbrev pub table_in : List ℕ → Members → Option Members
table_in key members = option_and_then as_table (get_member key members)

-- the table at a key of the top of a file
abbrev pub table_of : List ℕ → ListFile → Option Members
table_of key file = option_and_then (table_in key) file.document

-- the table at a key of a table of the top of a file
abbrev pub table_below : List ℕ → List ℕ → ListFile → Option Members
table_below top key file = option_and_then (table_in key) (table_of top file)

-- the keys of a table, if there is one
abbrev pub keys_of : Option Members → List (List ℕ)
keys_of None = []
keys_of (Some members) = names_of members

-- a file of a list, without where it lies in memory
abbrev pub file_of : ListedFile → ListFile
file_of file =
    file_with file.source.now (option_map (λ document. table_view document.now) file.document)

-- the key of a file at which its test groups stand
abbrev pub groups_key : List ℕ
groups_key = codes "test-groups"

-- the key of a file at which tables of its scripts stand
abbrev pub scripts_key : List ℕ
scripts_key = codes "scripts"

-- the key of `scripts` at which setup scripts stand
abbrev pub setup_key : List ℕ
setup_key = codes "setup"

-- the key of `scripts` at which wrapper scripts stand
abbrev pub wrapper_key : List ℕ
wrapper_key = codes "wrapper"

-- an older key of a file at which its setup scripts stand
abbrev pub script_key : List ℕ
script_key = codes "script"

-- the key of a file at which its profiles stand
abbrev pub profiles_key : List ℕ
profiles_key = codes "profile"

-- the key of a profile that names the one it inherits from
abbrev pub inherits_key : List ℕ
inherits_key = codes "inherits"

-- the profile of nextest's own that others inherit from in the end
abbrev pub default_profile : List ℕ
default_profile = codes "default"

-- the profile of nextest's own for runs under Miri
abbrev pub default_miri : List ℕ
default_miri = codes "default-miri"

-- ---- what they define

-- a key of the table, if there is one, is kept as this name
abbrev pub KeepsName : Option Members → List ℕ → Type 0
KeepsName found name = SomeOf (λ key. IsIdentifier key name) (keys_of found)

-- the file defines this name of a kind
abbrev pub HasNamed : NamedKind → ListFile → List ℕ → Type 0
HasNamed Group file name = KeepsName (table_of groups_key file) name
HasNamed (Script Setup) file name =
    KeepsName (table_below scripts_key setup_key file) name
    ⊎ KeepsName (table_of script_key file) name
HasNamed (Script Wrapper) file name =
    KeepsName (table_below scripts_key wrapper_key file) name

-- the file has a profile of this name
abbrev pub HasProfile : ListFile → List ℕ → Type 0
HasProfile file name = SomeOf (λ key. key ≡ name) (keys_of (table_of profiles_key file))

-- the file is this tool's
abbrev pub IsOfTool : ListFile → List ℕ → Type 0
IsOfTool file tool = file.kind ≡ Tool tool

-- the file has this name of a kind
abbrev pub HasName : NameKind → ListFile → List ℕ → Type 0
HasName (kinds.Named kind) = HasNamed kind
HasName kinds.Profile = HasProfile
HasName kinds.Tool = IsOfTool

-- some file has this name of a kind
abbrev pub IsNameIn : NameKind → List ListFile → List ℕ → Type 0
IsNameIn kind files name = SomeOf (λ file. HasName kind file name) files

-- some file defines this name of a kind
abbrev pub DefinesNamed : NamedKind → List ListFile → List ℕ → Type 0
DefinesNamed kind files name = SomeOf (λ file. HasNamed kind file name) files

-- nextest has the profile itself, or some file defines it
abbrev pub DefinesProfile : List ListFile → List ℕ → Type 0
DefinesProfile files name = (default_profile ≡ name) ⊎ ((default_miri ≡ name)
    ⊎ SomeOf (λ file. HasProfile file name) files)

-- some file is this tool's
abbrev pub HasTool : List ListFile → List ℕ → Type 0
HasTool files tool = SomeOf (λ file. IsOfTool file tool) files

-- each file is a document
abbrev pub AreDocuments : List ListFile → Type 0
AreDocuments files = AllByRecursion (λ file. IsSome file.document) files

-- ---- the features that they enable

-- the file is no tool's
abbrev pub IsNoTools : ConfigSourceKind → Type 0
IsNoTools (Tool tool) = ⊥
IsNoTools ExplicitRepository = Unit {0}
IsNoTools DiscoveredRepository = Unit {0}

-- the experimental feature that scripts of a kind need
abbrev pub feature_of : ScriptKind → ConfigExperimental
feature_of Setup = SetupScripts
feature_of Wrapper = WrapperScripts

-- the file is no tool's, and its value of `experimental` is this
abbrev pub HasExperimental : ListFile → Data → Type 0
HasExperimental file value = IsNoTools file.kind
    × (option_and_then (get_member experimental_key) file.document ≡ Some value)

-- the file, which is no tool's, enables the feature, in a table or in an array
abbrev pub EnablesFeature : ConfigExperimental → ListFile → Type 0
EnablesFeature feature file = (value : Data) × (named : FeatureSetting)
    × HasExperimental file value × (features_under ArrayAllowed).means value named
    × Contains named.features.known feature

-- the file is no tool's, and its value of `experimental` is refused under the edition
abbrev pub HasRefusedFeatures : Edition → ListFile → Type 0
HasRefusedFeatures edition file = (value : Data) × (fault : Fault)
    × HasExperimental file value × (features_under edition).faults value fault

-- no file of the list enables the feature, and none that isn't read, or of which that setting is
-- refused, may enable it
pub record IsFeatureMissing (edition : Edition) (files : List ListFile)
    (feature : ConfigExperimental) : Type 0 where
  pub all_read : AreDocuments files
  pub none_refused : SomeOf (HasRefusedFeatures edition) files → ⊥
  pub not_enabled : SomeOf (EnablesFeature feature) files → ⊥

-- what is kept of the features of a list is what its files say
pub record AreFeaturesOf (files : List ListFile) (features : ListFeatures) : Type 0 where
  pub setup : IsTrue features.setup_scripts ↔ SomeOf (EnablesFeature SetupScripts) files
  pub wrapper : IsTrue features.wrapper_scripts ↔ SomeOf (EnablesFeature WrapperScripts) files
  pub refused : IsTrue features.refused ↔ SomeOf (HasRefusedFeatures ArrayAllowed) files
  pub no_table : IsTrue features.no_table ↔ SomeOf (HasRefusedFeatures TableOnly) files

-- what is kept of a file whose value of `experimental` is refused under each edition
abbrev pub features_refused : ListFeatures
features_refused =
    record { setup_scripts = false; wrapper_scripts = false; refused = true; no_table = true }

-- ---- what profiles inherit from

-- the value of `inherits` of a profile in a file
abbrev pub inherits_in : List ℕ → ListFile → Option Data
inherits_in profile file = option_and_then (get_member inherits_key)
    (option_and_then (table_in profile) (table_of profiles_key file))

-- of the files that have `inherits` for the profile, the last is at this position, with this value
pub record IsCounting (files : List ListFile) (profile : List ℕ) (position : ℕ) (value : Data)
    : Type 0 where
  pub before : List ListFile
  pub file : ListFile
  pub after : List ListFile
  pub whole : files ≡ before ++ (file ∷ after)
  pub place : length before ≡ position
  pub here : inherits_in profile file ≡ Some value
  pub none_after : AllByRecursion (λ later. inherits_in profile later ≡ None) after

-- the profile inherits from this one by the value that counts; `default` inherits from none
abbrev pub IsParent : List ListFile → List ℕ → List ℕ → Type 0
IsParent files profile parent = (profile ≢ default_profile)
    × ((position : ℕ) × (value : Data) × IsCounting files profile position value
    × (as_str value ≡ Some parent))

-- so many steps lead from a profile to another, each to what one inherits from
abbrev pub IsWay : List ListFile → ℕ → List ℕ → List ℕ → Type 0
IsWay files zero from to = from ≡ to
IsWay files (suc steps) from to = (parent : List ℕ) × IsParent files from parent
    × IsWay files steps parent to

-- the profile comes back to itself by what it inherits from, and its value in the file at this
-- position counts
abbrev pub ComesBackAt : List ListFile → List ℕ → ℕ → Type 0
ComesBackAt files profile position = ((steps : ℕ) × IsWay files (suc steps) profile profile)
    × ((value : Data) × IsCounting files profile position value)

-- ---- all of it, as it is kept

-- the names of which this holds, in order
pub record AreNamesOf (Holds : List ℕ → Type 0) (names : List (List ℕ)) : Type 0 where
  pub in_order : TextsInOrder names
  pub each : (name : List ℕ) → Contains names name ↔ Holds name

-- what is kept of a list is what its files define, and which of its profiles come back to
-- themselves
pub record IsDefinedBy (files : List ListFile) (defined : Defined) : Type 0 where
  pub groups : AreNamesOf (DefinesNamed Group files) (map string_bytes defined.groups.keys)
  pub setup_scripts : AreNamesOf (DefinesNamed (Script Setup) files)
      (map string_bytes defined.setup_scripts.keys)
  pub wrapper_scripts : AreNamesOf (DefinesNamed (Script Wrapper) files)
      (map string_bytes defined.wrapper_scripts.keys)
  pub profiles : AreNamesOf (DefinesProfile files) (map string_bytes defined.profiles.keys)
  pub tools : AreNamesOf (HasTool files) (map string_bytes defined.tools.keys)
  pub documents : IsTrue defined.all_read ↔ AreDocuments files
  pub features : AreFeaturesOf files defined.features
  pub rings : (profile : List ℕ) (position : ℕ)
      → (get_by_text defined.rings profile ≡ Some position) ↔ ComesBackAt files profile position

-- ---- names that are added

-- the names of which this holds were added, and the order was kept
pub record AddsNames (Holds : List ℕ → Type 0) (before after : List (List ℕ)) : Type 0 where
  pub in_order : TextsInOrder before → TextsInOrder after
  pub each : (name : List ℕ) → Contains after name ↔ (Contains before name ⊎ Holds name)
