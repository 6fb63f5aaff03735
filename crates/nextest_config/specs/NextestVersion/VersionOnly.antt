-- Lists of sources: what each asks, the first that is refused, and what stands for them all.
use Rattle.std.specs.Prelude.{◌≡◌, ◌≢◌, ◌↔◌, ◌+◌, ℕ, List, [], ◌∷◌, ◌++◌, length, map, flat_map, Contains, Bool, Option, Some, None, IfSome, option_map}
use Rattle.std.specs.List.{AllByRecursion, AllZip}
use Rattle.semver.specs.Parse.{Parts}
use Rattle.nextest_config.specs.Merge.{in_a_row, IsFirstWrong, IsReordering, total}
use Rattle.nextest_config.specs.NextestVersion.Error.{kind_of, Refusal, RefusesBy, refusal_of}
use Rattle.nextest_config.specs.NextestVersion.Experimental.{FeaturesInOrder}
use Rattle.nextest_config.specs.NextestVersion.ExperimentalConfig.{AreSeenAs, Experimental, SeenFeatures, Unknown, array_at, entry_at, experimental_of, features_from, join_features, no_experimental, seen_features}
use Rattle.nextest_config.specs.NextestVersion.Precedence.{IsBelow}
use Rattle.nextest_config.specs.NextestVersion.KeptVersions.{Kept, Roles, kept_version, no_roles, roles_of, roles_from, join_roles}
use Rattle.nextest_config.specs.NextestVersion.Source.{SourcePlace, Source, place_of}
use Rattle.nextest_config.specs.NextestVersion.Verdict.{Verdict, verdict, named_place, IsSelected, SaysTheSame}
use Rattle.nextest_config.specs.NextestVersion.VersionOnlyDeserialize.{Ask, ask_of, IsWrong, TextAsks}
use Rattle.nextest_config.specs.declared.nextest_version.error.ConfigParseError.{ConfigParseError}
use Rattle.nextest_config.specs.declared.merge.PieceRefusal.{PieceRefusal}
use Rattle.nextest_config.specs.declared.merge.PieceRefusal.TheVariants as refusals
use Rattle.nextest_config.specs.declared.nextest_version.error_kind.ConfigParseErrorKind.TheVariants as kinds
use Rattle.nextest_config.specs.declared.nextest_version.experimental.ConfigExperimental.{ConfigExperimental}
use Rattle.nextest_config.specs.declared.nextest_version.source.ConfigSource.{ConfigSource}
use Rattle.nextest_config.specs.declared.nextest_version.version_only_deserialize.VersionOnlyDeserialize.{VersionOnlyDeserialize}
use Rattle.nextest_config.specs.declared.nextest_version.version_only.VersionOnlyConfig.{VersionOnlyConfig}

-- ---- one source

-- the source is in its grammar with this ask
abbrev pub IsRead : Source → Ask → Type 0
IsRead source ask = TextAsks source.edition source.place.kind source.contents ask

-- the source is outside its grammar, with this one error, which carries the source
pub record IsRefused (source : Source) (refusal : Refusal) : Type 0 where
  pub named : refusal.place ≡ source.place
  pub wrong : IsWrong source.edition source.place.kind source.contents refusal.wrong

-- the error tells what is wrong with the source
abbrev pub IsErrorOf : Source → Option Refusal → Type 0
IsErrorOf source (Some refusal) = IsRefused source refusal
IsErrorOf source None = ⊥

-- ---- a list of sources, lowest priority first

-- what a source asks, with its place
pub record SourceAsk : Type 0 where
  pub place : SourcePlace
  pub ask : Ask

-- what was read of a source, with its place
abbrev pub source_ask : ConfigSource → VersionOnlyDeserialize → SourceAsk
source_ask source asked = record { place = place_of source; ask = ask_of asked }

-- the source asks this, at its place
pub record IsReadAs (source : Source) (asked : SourceAsk) : Type 0 where
  pub place : asked.place ≡ source.place
  pub read : IsRead source asked.ask

-- the sources ask these, one each
abbrev pub AreRead : List Source → List SourceAsk → Type 0
AreRead sources asked = AllZip IsReadAs sources asked

-- every source is in its grammar
abbrev pub Reads : List Source → Type 0
Reads sources = (asked : List SourceAsk) × AreRead sources asked

-- the first position outside the grammar, and its error
abbrev pub IsFirstRefused : List Source → ℕ → Refusal → Type 0
IsFirstRefused = IsFirstWrong IsReadAs IsRefused

-- the first refused position of the first refused part, counted from the beginning of the first
-- part, and its error
pub record IsFirstRefusedAmong (parts : List (List Source)) (position : ℕ) (refusal : Refusal)
    : Type 0 where
  pub before : List (List Source)
  pub part : List Source
  pub after : List (List Source)
  pub within : ℕ
  pub whole : parts ≡ before ++ (part ∷ after)
  pub place : length (in_a_row before) + within ≡ position
  pub read : AllByRecursion Reads before
  pub refused : IsFirstRefused part within refusal

-- ---- what stands for a list of asks

-- in this role the source asks no version
abbrev pub AsksNone : (Ask → Option Parts) → SourceAsk → Type 0
AsksNone role asked = role asked.ask ≡ None

-- in this role the source doesn't ask this version
abbrev pub AsksOther : (Ask → Option Parts) → Parts → SourceAsk → Type 0
AsksOther role version asked = role asked.ask ≢ Some version

-- in this role the source asks no version above this one
abbrev pub AsksNoGreater : (Ask → Option Parts) → Parts → SourceAsk → Type 0
AsksNoGreater role version asked = IfSome (role asked.ask) (λ greater. ¬ IsBelow version greater)

-- in this role the version is asked, none greater is, and its place is that of the last position
-- that asks it
pub record IsGreatest (role : Ask → Option Parts) (asked : List SourceAsk) (kept : Kept) : Type 0
  where
    pub before : List SourceAsk
    pub last : SourceAsk
    pub after : List SourceAsk
    pub whole : asked ≡ before ++ (last ∷ after)
    pub version : role last.ask ≡ Some kept.version
    pub place : last.place ≡ kept.place
    pub others_later : AllByRecursion (AsksOther role kept.version) after
    pub none_greater : AllByRecursion (AsksNoGreater role kept.version) asked

-- a version is kept in this role exactly where some position asks one
abbrev pub StandsIn : (Ask → Option Parts) → List SourceAsk → Option Kept → Type 0
StandsIn role asked None = AllByRecursion (AsksNone role) asked
StandsIn role asked (Some kept) = IsGreatest role asked kept

-- some position enables the feature
abbrev pub IsEnabledBySome : List SourceAsk → ConfigExperimental → Type 0
IsEnabledBySome asked feature = (one : SourceAsk) × Contains asked one
    × Contains one.ask.features.known feature

-- the features that some position enables, in their order
pub record AreEnabled (asked : List SourceAsk) (known : List ConfigExperimental) : Type 0 where
  pub of_some : (feature : ConfigExperimental) → Contains known feature
      ↔ IsEnabledBySome asked feature
  pub in_order : FeaturesInOrder known

-- the entry of a position with unknown names
abbrev pub entry_of : SourceAsk → List Unknown
entry_of asked = entry_at asked.place asked.ask.features.unknown

-- the place of a position that names its features in an array
abbrev pub array_of : SourceAsk → List SourcePlace
array_of asked = array_at asked.place asked.ask.array

-- what reading a list gives: the versions that are kept, and what is named of features
pub record Configuration : Type 0 where
  pub roles : Roles
  pub experimental : Experimental

-- what was read of a list, without where it lies in memory
abbrev pub configuration_of : VersionOnlyConfig → Configuration
configuration_of config =
    record {
      roles = roles_of config.nextest_version;
      experimental = experimental_of config.experimental;
    }

-- the configuration that asks nothing
abbrev pub neutral : Configuration
neutral = record { roles = no_roles; experimental = no_experimental }

-- the configuration stands for the asks: it keeps the greatest version in each role, and has the
-- features that some ask enables, and the unknown names and arrays of all, in order
pub record StandsForAsks (asked : List SourceAsk) (configuration : Configuration) : Type 0 where
  pub required : StandsIn (λ ask. ask.versions.required) asked configuration.roles.required
  pub recommended : StandsIn (λ ask. ask.versions.recommended) asked configuration.roles.recommended
  pub known : AreEnabled asked configuration.experimental.known
  pub unknown : configuration.experimental.unknown ≡ flat_map entry_of asked
  pub arrays : configuration.experimental.arrays ≡ flat_map array_of asked

-- the configuration stands for the sources, that is, for what they ask, one each
abbrev pub StandsFor : List Source → Configuration → Type 0
StandsFor sources configuration = (asked : List SourceAsk) × AreRead sources asked
    × StandsForAsks asked configuration

-- the configuration stands for the one source
abbrev pub StandsForOne : Source → Configuration → Type 0
StandsForOne source = StandsFor (source ∷ [])

-- ---- selection

-- the verdict of a source read alone
abbrev pub alone : Parts → Bool → SourceAsk → Verdict
alone current overridden asked =
    verdict (roles_from asked.place asked.ask.versions) current overridden

-- for each current version and both flags, the verdict of the roles is selected from the verdicts
-- of the asks alone
abbrev pub SelectsAmong : List SourceAsk → Roles → Type 0
SelectsAmong asked roles = (current : Parts) (overridden : Bool)
    → IsSelected (map (alone current overridden) asked) (verdict roles current overridden)

-- the roles select among what the sources ask
abbrev pub SelectsFor : List Source → Roles → Type 0
SelectsFor sources roles = (asked : List SourceAsk) × AreRead sources asked
    × SelectsAmong asked roles

-- the verdict is selected from those of the sources, each read alone
abbrev pub IsSelectedFor : List Source → Parts → Bool → Verdict → Type 0
IsSelectedFor sources current overridden v = (asked : List SourceAsk) × AreRead sources asked
    × IsSelected (map (alone current overridden) asked) v

-- some source, read alone, gives this verdict, which names its place
pub record IsFromSource (current : Parts) (overridden : Bool) (asked : List SourceAsk) (v : Verdict)
    : Type 0 where
  pub before : List SourceAsk
  pub source : SourceAsk
  pub after : List SourceAsk
  pub whole : asked ≡ before ++ (source ∷ after)
  pub given : alone current overridden source ≡ v
  pub named : named_place v ≡ Some source.place

-- the list is refused at the first refused position with its one error, or there was no memory
abbrev pub IsRefusalOf : List Source → PieceRefusal ConfigParseError → Type 0
IsRefusalOf sources (refusals.Refused position error) = (refusal : Refusal)
    × (refusal_of error ≡ Some refusal) × IsFirstRefused sources position refusal
IsRefusalOf sources refusals.Memory = Unit {0}

-- the error is that of the first refused position of the list, or there was no memory
abbrev pub IsErrorOfList : List Source → ConfigParseError → Type 0
IsErrorOfList sources =
    RefusesBy (λ refusal. (position : ℕ) × IsFirstRefused sources position refusal)

-- ---- what reading a list gives

-- the sources read, the configuration stands for them, and its verdicts are selected from theirs
pub record IsConfigurationOf (sources : List Source) (configuration : Configuration) : Type 0 where
  pub reads : Reads sources
  pub stands : StandsFor sources configuration
  pub selected : SelectsFor sources configuration.roles

-- reading the sources ends in this refusal, which is want of memory where they all read
pub record IsRefusedReading (sources : List Source) (refusal : PieceRefusal ConfigParseError)
    : Type 0 where
  pub only : Reads sources → refusal ≡ refusals.Memory
  pub refused : IsRefusalOf sources refusal

-- reading the sources ends in this error, which tells no position; it is want of memory where they
-- all read
pub record IsErrorOfReading (sources : List Source) (error : ConfigParseError) : Type 0 where
  pub only : Reads sources → kind_of error ≡ kinds.Memory
  pub refused : IsErrorOfList sources error

-- the two keep the same versions, know the same features and have the same entries of unknown names
-- and the same arrays in some order; and on each current version both verdicts say the same
pub record Agree (configuration other : Configuration) : Type 0 where
  pub required : option_map kept_version configuration.roles.required
      ≡ option_map kept_version other.roles.required
  pub recommended : option_map kept_version configuration.roles.recommended
      ≡ option_map kept_version other.roles.recommended
  pub known : configuration.experimental.known ≡ other.experimental.known
  pub unknown : IsReordering configuration.experimental.unknown other.experimental.unknown
  pub arrays : IsReordering configuration.experimental.arrays other.experimental.arrays
  pub verdicts : (current : Parts) (overridden : Bool)
      → SaysTheSame (verdict configuration.roles current overridden)
      (verdict other.roles current overridden)

-- ---- the join of configurations

-- what a source at this place asks, on its own
abbrev pub configuration_from : SourcePlace → Ask → Configuration
configuration_from place ask =
    record {
      roles = roles_from place ask.versions;
      experimental = features_from place (record { features = ask.features; array = ask.array });
    }

-- what is seen of a configuration where it is joined
pub record SeenConfiguration : Type 0 where
  pub roles : Roles
  pub experimental : SeenFeatures

-- what is seen of this configuration
abbrev pub seen_configuration : Configuration → SeenConfiguration
seen_configuration configuration =
    record { roles = configuration.roles; experimental = seen_features configuration.experimental }

-- what is seen of the configuration that asks nothing
abbrev pub neutral_seen : SeenConfiguration
neutral_seen = seen_configuration neutral

-- the join of two configurations: that of their roles, and that of their features
abbrev pub join_configurations : SeenConfiguration → SeenConfiguration → SeenConfiguration
join_configurations earlier later = record {
  roles = join_roles earlier.roles later.roles;
  experimental = join_features earlier.experimental later.experimental;
}

-- this is seen of the configuration, and its known features stand in their order
pub record IsSeenAs (seen : SeenConfiguration) (configuration : Configuration) : Type 0 where
  pub roles : configuration.roles ≡ seen.roles
  pub experimental : AreSeenAs seen.experimental configuration.experimental

-- the join of these configurations, in order, is seen of this one
abbrev pub IsJoinOf : List Configuration → Configuration → Type 0
IsJoinOf configurations =
    IsSeenAs (total join_configurations neutral_seen (map seen_configuration configurations))
