-- What one source asks, or what is wrong with it.
use Rattle.std.specs.Prelude.{◌≡◌, ◌≢◌, ℕ, Bool, false, List, [], codes, Option, Some, None}
use Rattle.toml.specs.Data.{Members}
use Rattle.toml.specs.Parse.{parse_document}
use Rattle.nextest_config_values.specs.Read.{faults_at, or_default, Reading, Then, ReadFaultView}
use Rattle.nextest_config.specs.NextestVersion.NextestVersionDeserialize.{Versions, no_versions, versions_of, versions_reading}
use Rattle.nextest_config.specs.NextestVersion.ErrorKind.{Wrong, not_toml, setting, tool_features}
use Rattle.nextest_config.specs.NextestVersion.ExperimentalDeserialize.{AreNames, Features, FeatureSetting, features_of, in_form, no_features, no_feature_setting}
use Rattle.nextest_config.specs.NextestVersion.ExperimentalLaws.{features_under}
use Rattle.nextest_config.specs.declared.nextest_version.edition.Edition.{Edition}
use Rattle.nextest_config.specs.declared.nextest_version.source.ConfigSourceKind.{ConfigSourceKind}
use Rattle.nextest_config.specs.declared.nextest_version.source.ConfigSourceKind.TheVariants.{Tool, ExplicitRepository, DiscoveredRepository}
use Rattle.nextest_config.specs.declared.nextest_version.version_only_deserialize.VersionOnlyDeserialize.{VersionOnlyDeserialize}

-- what one source asks: at most one version in each role, the features that it enables, and the
-- unknown feature names in it; and whether it names them in an array
pub record Ask : Type 0 where
  pub versions : Versions
  pub features : Features
  pub array : Bool

-- the ask of no version and no feature
abbrev pub nothing : Ask
nothing = record { versions = no_versions; features = no_features; array = false }

-- what was read of a source
abbrev pub ask_of : VersionOnlyDeserialize → Ask
ask_of d = record {
  versions = versions_of d.nextest_version;
  features = features_of d.experimental;
  array = d.experimental.array;
}

-- the key of the setting that asks for versions
abbrev pub version_key : List ℕ
version_key = codes "nextest-version"

-- the key of the setting that names features
abbrev pub experimental_key : List ℕ
experimental_key = codes "experimental"

-- ---- a source in its grammar

-- what a table asks for at `nextest-version`: no version where it lacks the key
abbrev pub versions_asked : Reading Members Versions
versions_asked = or_default version_key no_versions versions_reading

-- the table asks for these versions
abbrev pub AsksVersions : Members → Versions → Type 0
AsksVersions = versions_asked.means

-- what a table says at `experimental` under the edition: nothing where it lacks the key
abbrev pub features_asked : Edition → Reading Members FeatureSetting
features_asked edition = or_default experimental_key no_feature_setting (features_under edition)

-- the table says this of features
abbrev pub AsksFeatures : Edition → Members → FeatureSetting → Type 0
AsksFeatures edition = (features_asked edition).means

-- a tool's source names no feature
abbrev pub ObeysToolRule : ConfigSourceKind → Features → Type 0
ObeysToolRule (Tool name) features = features ≡ no_features
ObeysToolRule ExplicitRepository features = Unit {0}
ObeysToolRule DiscoveredRepository features = Unit {0}

-- the table of a document asks this under the edition
pub record TableAsks (edition : Edition) (kind : ConfigSourceKind) (members : Members) (ask : Ask)
    : Type 0 where
  pub of_versions : AsksVersions members ask.versions
  pub of_features : AsksFeatures edition members (in_form ask.array ask.features)
  pub of_tool : ObeysToolRule kind ask.features

-- a source is in its grammar with this ask: it has no contents and asks nothing, or its contents
-- are a document (TOML 1.1) whose table asks it
abbrev pub TextAsks : Edition → ConfigSourceKind → Option (List ℕ) → Ask → Type 0
TextAsks edition kind None ask = ask ≡ nothing
TextAsks edition kind (Some text) ask = (members : Members) × (parse_document text ≡ Some members)
    × TableAsks edition kind members ask

-- ---- a source outside its grammar

-- a tool's source names a feature
abbrev pub BreaksToolRule : ConfigSourceKind → Features → Wrong → Type 0
BreaksToolRule (Tool name) features wrong = (features ≢ no_features)
    × ((names : List (List ℕ)) × AreNames features names × (wrong ≡ tool_features names))
BreaksToolRule ExplicitRepository features wrong = ⊥
BreaksToolRule DiscoveredRepository features wrong = ⊥

-- a setting of the table is refused, which is told at its path in the document
abbrev pub IsWrongSetting : {X : Type 0} → Reading Members X → Members → Wrong → Type 0
IsWrongSetting reading members wrong = (told : ReadFaultView) × faults_at reading members [] told
    × (wrong ≡ setting told)

-- what is wrong with `experimental`; where that is all right, that a tool names a feature
abbrev pub IsWrongNamed : Edition → ConfigSourceKind → Members → Wrong → Type 0
IsWrongNamed edition kind members =
    Then (IsWrongSetting (features_asked edition) members) (AsksFeatures edition members)
    (λ named. BreaksToolRule kind named.features)

-- what is wrong with a table: at `nextest-version`; where that is all right, at `experimental`
abbrev pub IsWrongTable : Edition → ConfigSourceKind → Members → Wrong → Type 0
IsWrongTable edition kind members =
    Then (IsWrongSetting versions_asked members) (AsksVersions members)
    (λ versions. IsWrongNamed edition kind members)

-- what is wrong with contents: they are no document (TOML 1.1), or something is wrong with its
-- table
abbrev pub IsWrongDocument : Edition → ConfigSourceKind → Option Members → Wrong → Type 0
IsWrongDocument edition kind None wrong = wrong ≡ not_toml
IsWrongDocument edition kind (Some members) wrong = IsWrongTable edition kind members wrong

-- what is wrong under the edition with the contents of a source outside its grammar
abbrev pub IsWrong : Edition → ConfigSourceKind → Option (List ℕ) → Wrong → Type 0
IsWrong edition kind None wrong = ⊥
IsWrong edition kind (Some text) wrong = IsWrongDocument edition kind (parse_document text) wrong
