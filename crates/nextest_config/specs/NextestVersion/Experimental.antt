-- The experimental features, their words and their environment variables (nextest's reference).
use Rattle.std.specs.Prelude.{◌≡◌, ◌≢◌, ◌↔◌, ◌⊎◌, ℕ, List, [], ◌∷◌, Contains, String, codes, string_bytes, Option, Some, None, option_map}
use Rattle.std.proofs.Common.{rules}
use Rattle.std.specs.BTreeMap.{BTreeMap, get_by_text}
use Rattle.std.specs.Cmp.Lexicographic.{slice_cmp}
use Rattle.std.specs.List.Sorted.{IsStrictlySortedBy}
use Rattle.std.specs.Ordering.{nat_cmp}
use Rattle.std.specs.declared.alloc.Global.{Global}
use Rattle.std.specs.declared.cmp.Ordering.{Ordering}
use Rattle.std.specs.Slice.Iter.{iter_rest}
use Rattle.nextest_config_values.specs.Read.{value_of}
use Rattle.nextest_config.specs.declared.nextest_version.experimental.ConfigExperimental.{ConfigExperimental}
use Rattle.nextest_config.specs.declared.nextest_version.experimental.ConfigExperimental.TheVariants as features
use Rattle.nextest_config.specs.declared.nextest_version.experimental.KnownFeatures.{KnownFeatures}

-- the experimental features, in their order
abbrev pub all_features : List ConfigExperimental
all_features = features.SetupScripts ∷ features.WrapperScripts ∷ features.Benchmarks ∷ []

-- the word of a feature
abbrev pub word_of : ConfigExperimental → List ℕ
word_of features.SetupScripts = codes "setup-scripts"
word_of features.WrapperScripts = codes "wrapper-scripts"
word_of features.Benchmarks = codes "benchmarks"

-- a word is read back as its feature
pub feature_reads_back : (feature : ConfigExperimental)
    → value_of word_of all_features (word_of feature) ≡ Some feature
feature_reads_back feature = search rules

-- the text is no feature's word
abbrev pub IsUnknown : List ℕ → Type 0
IsUnknown text = (feature : ConfigExperimental) → word_of feature ≢ text

-- the environment variable that enables the feature
abbrev pub variable_of : ConfigExperimental → Option (List ℕ)
variable_of features.SetupScripts = None
variable_of features.WrapperScripts = None
variable_of features.Benchmarks = Some (codes "NEXTEST_EXPERIMENTAL_BENCHMARKS")

-- the feature has a variable, and its value is `1`
abbrev pub IsEnabled : BTreeMap (String Global) (String Global) → ConfigExperimental → Type 0
IsEnabled variables feature = (name : List ℕ) × (variable_of feature ≡ Some name)
    × (option_map string_bytes (get_by_text variables name) ≡ Some (codes "1"))

-- the place of a feature in their order
abbrev pub place_among : ConfigExperimental → ℕ
place_among features.SetupScripts = 0
place_among features.WrapperScripts = 1
place_among features.Benchmarks = 2

-- how two features compare, by their places
abbrev pub feature_cmp : ConfigExperimental → ConfigExperimental → Ordering
feature_cmp x y = nat_cmp (place_among x) (place_among y)

-- the features stand in their order, each once
abbrev pub FeaturesInOrder : List ConfigExperimental → Type 0
FeaturesInOrder = IsStrictlySortedBy feature_cmp

-- the texts stand in byte order, each once
abbrev pub TextsInOrder : List (List ℕ) → Type 0
TextsInOrder = IsStrictlySortedBy (slice_cmp nat_cmp)

-- the second list has the elements of the first one, this one more, and no others
abbrev pub HasOneMore : {X : Type 0} → List X → X → List X → Type 0
HasOneMore {X} before x after = (y : X) → Contains after y ↔ (Contains before y ⊎ (x ≡ y))

-- ---- the iterator over the features

-- the features that come from the iterator
abbrev pub features_left : KnownFeatures → List ConfigExperimental
features_left known = iter_rest known.features
