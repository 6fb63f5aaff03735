-- What configuration sources ask of the nextest version, the experimental features that they name,
-- and what follows for a current version.
pub mod VersionText
pub mod VersionTextLaws
pub mod Precedence
pub mod PrecedenceLaws
pub mod Source
pub mod NextestVersionDeserialize
pub mod ErrorKind
pub mod Experimental
pub mod ExperimentalDeserialize
pub mod SetLaws
pub mod ExperimentalLaws
pub mod ExperimentalSteps
pub mod VersionOnlyDeserialize
pub mod VersionOnlyDeserializeLaws
pub mod File
pub mod Later
pub mod Parts
pub mod KeptVersions
pub mod KeptVersionsLaws
pub mod Verdict
pub mod Error
pub mod ExperimentalConfig
pub mod ExperimentalConfigLaws
pub mod VersionOnly
pub mod VersionOnlyLaws
pub mod Document
pub mod BorrowedSource
pub mod BorrowedSourceLaws
pub use VersionText.{BreaksVersion, HasVersion, hyphen, IsPlain, IsVersionFault, IsVersionText, Numbers, plain, plus_sign}
pub use VersionTextLaws.{mark_at, no_version, read_three, read_two, third, version_once, version_reading, version_text}
pub use Precedence.{is_below, IsBelow, IsEnough, IsEnoughByNumbers, precedence}
pub use Source.{Given, given_at, given_of, SourcePlace, place_of, place_text, repository_given, repository_place, source_of, source_under, tool_given, tool_place, under}
pub use NextestVersionDeserialize.{in_order, no_versions, recommended_key, required_key, requires, version_table, version_table_keys, Versions, versions, versions_of, versions_reading}
pub use ErrorKind.{error_kind_text, is_memory, IsSettingKind, RefusesSource, setting, tool_features, Wrong, wrong_of}
pub use Experimental.{all_features, feature_cmp, feature_reads_back, features_left, FeaturesInOrder, HasOneMore, IsEnabled, IsUnknown, TextsInOrder, variable_of, word_of}
pub use ExperimentalDeserialize.{AreNamed, AreNames, AreSetsInOrder, FeatureArrayFaults, Features, features_of, FeatureSetting, feature_setting_of, in_form, IsAmong, IsTextAt, IsUnknownFeatureKey, IsWordAmong, ItemFaults, MeansFeatureArray, no_features, no_feature_setting, switch, text_in}
pub use ExperimentalLaws.{feature_array, feature_table, features_in_one_order, features_of_table, features_reading, features_under, no_array, one_at_a_place, switches, table_names, texts_in_one_order}
pub use ExperimentalSteps.{AddsItem, AddsText}
pub use VersionOnlyDeserialize.{Ask, ask_of, AsksFeatures, AsksVersions, BreaksToolRule, experimental_key, features_asked, IsWrong, IsWrongDocument, IsWrongNamed, IsWrongSetting, IsWrongTable, nothing, ObeysToolRule, TableAsks, TextAsks, version_key, versions_asked}
pub use File.{file_given, givens_of, sources_of, sources_under}
pub use KeptVersions.{IsReplacement, join_kept, join_roles, Kept, kept_from, kept_of, kept_version, no_roles, role_from, Roles, roles_from, roles_of}
pub use Verdict.{error, gravity, IsGravest, IsNoGraver, IsNoGreaterOfItsKind, IsOtherOfItsKind, IsOverriding, IsSatisfied, IsSelected, named_place, named_version, NamesNoGreater, not_met, rank, satisfied, SaysTheSame, severity_of, short_of, Shortfall, shortfall, verdict, verdict_by, verdict_in, verdict_of, verdict_of_unmet, warn}
pub use Error.{error_text, IsKindOf, IsRefusedSo, kind_of, Refusal, refusal_at, refusal_of, refusal_text, RefusesBy, source_place, source_text, told_refusal}
pub use ExperimentalConfig.{AddsFeatures, AreSeenAs, array_at, arrays_left, entry_at, errors_left, experimental_of, features_from, has_feature, join_features, no_experimental, no_features_seen, seen_features, SeenFeatures, told_by, Unknown, unknown_of}
pub use VersionOnly.{Agree, alone, AreEnabled, AreRead, array_of, AsksNoGreater, AsksNone, AsksOther, Configuration, configuration_from, configuration_of, entry_of, IsConfigurationOf, IsEnabledBySome, IsErrorOf, IsErrorOfList, IsErrorOfReading, IsFirstRefused, IsFirstRefusedAmong, IsFromSource, IsGreatest, IsJoinOf, IsRead, IsReadAs, IsRefusalOf, IsRefused, IsRefusedReading, IsSeenAs, IsSelectedFor, join_configurations, neutral, neutral_seen, Reads, seen_configuration, SeenConfiguration, SelectsAmong, SelectsFor, source_ask, SourceAsk, StandsFor, StandsForAsks, StandsForOne, StandsIn}
pub use Document.{AreDocumentsOf, document_members, document_place, IsDocumentOf, IsErrorOfDocument, StandsForDocument}
pub use BorrowedSource.{AreGivenAs, IsErrorOfBorrowed, IsGivenAs, StandsForBorrowed}
