-- The experimental features of all sources.
use Rattle.std.specs.Prelude.{◌≡◌, ℕ, Bool, true, false, ◌||◌, List, [], ◌∷◌, ◌++◌, map, String, string_bytes}
use Rattle.std.proofs.Common.{Bor}
use Rattle.std.specs.BTreeSet.{BTreeSet}
use Rattle.std.specs.Ordering.{eq_by_cmp}
use Rattle.std.specs.Set.{is_member}
use Rattle.std.specs.declared.alloc.Global.{Global}
use Rattle.nextest_config.specs.NextestVersion.Experimental.{feature_cmp, FeaturesInOrder}
use Rattle.nextest_config.specs.NextestVersion.ExperimentalDeserialize.{FeatureSetting}
use Rattle.nextest_config.specs.NextestVersion.Source.{SourcePlace, place_of}
use Rattle.nextest_config.specs.declared.nextest_version.experimental.ConfigExperimental.{ConfigExperimental}
use Rattle.nextest_config.specs.declared.nextest_version.experimental_config.ArraySources.{ArraySources}
use Rattle.nextest_config.specs.declared.nextest_version.experimental_config.ExperimentalConfig.{ExperimentalConfig}
use Rattle.nextest_config.specs.declared.nextest_version.experimental_config.SourceErrors.{SourceErrors}
use Rattle.nextest_config.specs.declared.nextest_version.experimental_config.UnknownFeatures.{UnknownFeatures}
use Rattle.nextest_config.specs.declared.nextest_version.source.ConfigSource.{ConfigSource}

-- unknown feature names, and the place of the source that names them
pub record Unknown : Type 0 where
  pub place : SourcePlace
  pub names : List (List ℕ)

-- the features that are enabled, the unknown names of each source that has some, and the sources
-- that name theirs in an array
pub record Experimental : Type 0 where
  pub known : List ConfigExperimental
  pub unknown : List Unknown
  pub arrays : List SourcePlace

-- these names, at the place of this source
abbrev pub unknown_from : ConfigSource → BTreeSet (String Global) → Unknown
unknown_from source names = record { place = place_of source; names = map string_bytes names.keys }

-- the unknown names in an entry, with the place of its source
abbrev pub unknown_of : UnknownFeatures → Unknown
unknown_of entry = unknown_from entry.source entry.names

-- what a configuration has of features
abbrev pub experimental_of : ExperimentalConfig → Experimental
experimental_of config =
    record {
      known = config.known.keys;
      unknown = map unknown_of config.unknown.items;
      arrays = map place_of config.array_sources.items;
    }

-- no feature, no unknown name and no array
abbrev pub no_experimental : Experimental
no_experimental = record { known = []; unknown = []; arrays = [] }

-- the entry of a source with these names, none where there are none
abbrev pub entry_at : SourcePlace → List (List ℕ) → List Unknown
entry_at place [] = []
entry_at place (name ∷ names) = record { place = place; names = name ∷ names } ∷ []

-- the place of a source that names its features in an array, none of any other
abbrev pub array_at : SourcePlace → Bool → List SourcePlace
array_at place true = place ∷ []
array_at place false = []

-- what a source at this place names, on its own
abbrev pub features_from : SourcePlace → FeatureSetting → Experimental
features_from place named =
    record {
      known = named.features.known;
      unknown = entry_at place named.features.unknown;
      arrays = array_at place named.array;
    }

-- ---- the join of features

-- what is seen of features where they are joined: whether each is enabled, and the unknown names
-- and the arrays, in order
pub record SeenFeatures : Type 0 where
  pub enables : ConfigExperimental → Bool
  pub unknown : List Unknown
  pub arrays : List SourcePlace

-- whether the feature is in the list
abbrev pub has_feature : List ConfigExperimental → ConfigExperimental → Bool
has_feature = is_member (eq_by_cmp feature_cmp)

-- what is seen of these features
abbrev pub seen_features : Experimental → SeenFeatures
seen_features features =
    record {
      enables = has_feature features.known;
      unknown = features.unknown;
      arrays = features.arrays;
    }

-- what is seen of no features
abbrev pub no_features_seen : SeenFeatures
no_features_seen = seen_features no_experimental

-- the join: a feature is enabled where either side enables it, and the later unknown names and
-- arrays come after the earlier ones
abbrev pub join_features : SeenFeatures → SeenFeatures → SeenFeatures
join_features earlier later = record {
  enables = λ feature. earlier.enables feature || later.enables feature;
  unknown = earlier.unknown ++ later.unknown;
  arrays = earlier.arrays ++ later.arrays;
}

-- this is seen of the features, and the known ones stand in their order
pub record AreSeenAs (seen : SeenFeatures) (features : Experimental) : Type 0 where
  pub same : seen_features features ≡ seen
  pub in_order : FeaturesInOrder features.known

-- the second is the first one joined with what a source at this place names
abbrev pub AddsFeatures : SourcePlace → FeatureSetting → Experimental → Experimental → Type 0
AddsFeatures place named before =
    AreSeenAs (join_features (seen_features before) (seen_features (features_from place named)))

-- ---- the iterators over the unknown names and the arrays

-- what an item of the iterator tells
abbrev pub told_by : Bor ConfigSource × Bor (BTreeSet (String Global)) → Unknown
told_by item = unknown_from item.0.now item.1.now

-- the entries that come from the iterator
abbrev pub errors_left : SourceErrors → List Unknown
errors_left errors = map unknown_of errors.unknown.rest.now

-- the places of the sources that come from the iterator
abbrev pub arrays_left : ArraySources → List SourcePlace
arrays_left arrays = map place_of arrays.sources.rest.now
