-- What one source says of the experimental features.
use Rattle.std.specs.Prelude.{◌≡◌, ◌↔◌, ◌⊎◌, ◌<◌, ℕ, Bool, false, List, [], map, Contains, string_bytes, Option, Some, None, IsSome}
use Rattle.toml.specs.Data.{Data, Items, Members, as_str, get_item, get_member}
use Rattle.nextest_config_values.specs.Read.Fault.{Fault}
use Rattle.nextest_config_values.specs.Read.{bool_reading, fault_below, index, or_default, Reading, text_expected, wrong_type}
use Rattle.nextest_config.specs.NextestVersion.Experimental.{FeaturesInOrder, IsUnknown, TextsInOrder, word_of}
use Rattle.nextest_config.specs.declared.nextest_version.experimental.ConfigExperimental.{ConfigExperimental}
use Rattle.nextest_config.specs.declared.nextest_version.experimental_deserialize.ExperimentalDeserialize.{ExperimentalDeserialize}

-- the features that a source enables, and the unknown feature names in it
pub record Features : Type 0 where
  pub known : List ConfigExperimental
  pub unknown : List (List ℕ)

-- what a setting names
abbrev pub features_of : ExperimentalDeserialize → Features
features_of d = record { known = d.known.keys; unknown = map string_bytes d.unknown.keys }

-- no feature, and no other name
abbrev pub no_features : Features
no_features = record { known = []; unknown = [] }

-- what a setting says: the features that it names, and whether it is an array
pub record FeatureSetting : Type 0 where
  pub features : Features
  pub array : Bool

-- these features, as an array or not
abbrev pub in_form : Bool → Features → FeatureSetting
in_form array features = record { features = features; array = array }

-- what was read of a setting
abbrev pub feature_setting_of : ExperimentalDeserialize → FeatureSetting
feature_setting_of d = in_form d.array (features_of d)

-- what a missing setting says
abbrev pub no_feature_setting : FeatureSetting
no_feature_setting = in_form false no_features

-- both sets are written in order: the features in theirs, the names in byte order
pub record AreSetsInOrder (named : Features) : Type 0 where
  pub known_in_order : FeaturesInOrder named.known
  pub unknown_in_order : TextsInOrder named.unknown

-- the features are those that are enabled, and the other names those that stand there and are no
-- feature's word
pub record AreNamed (IsEnabled : ConfigExperimental → Type 0) (StandsThere : List ℕ → Type 0)
    (named : Features) : Type 0 where
  pub of_known : (feature : ConfigExperimental) → Contains named.known feature ↔ IsEnabled feature
  pub of_unknown : (text : List ℕ) → Contains named.unknown text
      ↔ (StandsThere text × IsUnknown text)
  pub in_order : AreSetsInOrder named

-- ---- the array form

-- the text that a value holds, if there is a value and it is a text
abbrev pub text_in : Option Data → Option (List ℕ)
text_in None = None
text_in (Some value) = as_str value

-- the element at this place is a text
abbrev pub IsTextAt : Items → ℕ → Type 0
IsTextAt items place = IsSome (text_in (get_item place items))

-- the text is an element
abbrev pub IsAmong : Items → List ℕ → Type 0
IsAmong items text = (place : ℕ) × (text_in (get_item place items) ≡ Some text)

-- each element is a text; a feature is enabled where its word is an element (TOML 1.1, "Array")
pub record MeansFeatureArray (items : Items) (named : Features) : Type 0 where
  pub of_texts : (place : ℕ) → IsSome (get_item place items) → IsTextAt items place
  pub of_names : AreNamed (λ feature. IsAmong items (word_of feature)) (IsAmong items) named

-- the element at this place is no text, which is the fault
abbrev pub ItemFaults : Data → ℕ → Fault → Type 0
ItemFaults value place fault = (as_str value ≡ None)
    × (fault ≡ fault_below (index place) (wrong_type value text_expected))

-- the fault is that of the first element that is no text
abbrev pub FeatureArrayFaults : Items → Fault → Type 0
FeatureArrayFaults items fault = (place : ℕ) × (value : Data) × (get_item place items ≡ Some value)
    × ((earlier : ℕ) → earlier < place → IsTextAt items earlier) × ItemFaults value place fault

-- ---- the table form

-- whether the key of a feature is true; a missing key is false
abbrev pub switch : ConfigExperimental → Reading Members Bool
switch feature = or_default (word_of feature) false bool_reading

-- the text is a key of the table and no feature's word
abbrev pub IsUnknownFeatureKey : Members → List ℕ → Type 0
IsUnknownFeatureKey members text = IsSome (get_member text members) × IsUnknown text

-- ---- the names of both sets

-- the text is the word of one of the features
abbrev pub IsWordAmong : List ConfigExperimental → List ℕ → Type 0
IsWordAmong known text = (feature : ConfigExperimental) × Contains known feature
    × (word_of feature ≡ text)

-- the names of the features that are enabled and of those that are unknown, in byte order
pub record AreNames (features : Features) (names : List (List ℕ)) : Type 0 where
  pub of_both : (text : List ℕ)
      → Contains names text ↔ (Contains features.unknown text ⊎ IsWordAmong features.known text)
  pub in_order : TextsInOrder names
