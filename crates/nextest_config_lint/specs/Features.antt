-- What is found of the experimental features that a value names.
use Rattle.std.specs.Prelude.{◌≡◌, ◌≢◌, ◌⊎◌, ◌<◌, ℕ, List, [], ◌∷◌, ◌++◌, codes, if◌then◌else◌, map, Option, Some, None, option_and_then}
use Rattle.toml.specs.Data.{as_str, Data}
use Rattle.nextest_config_values.specs.Read.{comma_list}
use Rattle.nextest_config.specs.NextestVersion.{all_features, AreNames, Features, FeatureSetting, no_features, word_of}
use Rattle.nextest_config.specs.declared.nextest_version.experimental.ConfigExperimental.{ConfigExperimental}
use Rattle.nextest_config.specs.declared.nextest_version.source.ConfigSourceKind.{ConfigSourceKind}
use Rattle.nextest_config.specs.declared.nextest_version.source.ConfigSourceKind.TheVariants.{DiscoveredRepository, ExplicitRepository, Tool}
use Rattle.toml_spans.specs.Line.{step_from}
use Rattle.toml_spans.specs.Step.{index, key, PathStep}
use Rattle.nextest_config_lint.specs.Found.{AreFoundIn, deprecated_array, Found, found_at, IsNearestSuggestion, Suggestion, tool_names, unknown_name}

-- ---- where a name stands

-- the element at this index is the name
abbrev pub IsNameAt : Data → List ℕ → ℕ → Type 0
IsNameAt value name place = option_and_then as_str (step_from value (index place)) ≡ Some name

-- this is the index of the first element that is the name, or there is none
abbrev pub IsFirstAt : Data → List ℕ → Option ℕ → Type 0
IsFirstAt value name (Some place) =
    IsNameAt value name place × ((earlier : ℕ) → earlier < place → IsNameAt value name earlier → ⊥)
IsFirstAt value name None = (place : ℕ) → IsNameAt value name place → ⊥

-- the step to a name: to the first element that is the name, or to the key, where none is
abbrev pub IsStepTo : Data → List ℕ → PathStep → Type 0
IsStepTo value name (index place) = IsFirstAt value name (Some place)
IsStepTo value name (key text) = IsFirstAt value name None × (text ≡ name)

-- ---- what is found

-- an unknown feature name, which may be meant for the nearest feature
abbrev pub IsNameFound : List PathStep → Data → List ℕ → Option Found → Type 0
IsNameFound path value name found =
    (step : PathStep) × (hint : Option Suggestion) × IsStepTo value name step
    × IsNearestSuggestion (map word_of all_features) name hint
    × (found ≡ Some (found_at (path ++ (step ∷ [])) (unknown_name name hint)))

-- a tool's file that names features, known or not
abbrev pub AreToolsFound : List PathStep → Features → List Found → Type 0
AreToolsFound path features all_found =
    ((features ≡ no_features) × (all_found ≡ []))
    ⊎ ((features ≢ no_features)
    × ((names : List (List ℕ)) × AreNames features names
    × (all_found ≡ found_at path (tool_names names) ∷ [])))

-- what is found of the features that a value at a path names, in a file of this kind
abbrev pub AreNamedFound : ConfigSourceKind → List PathStep → Data → Features → List Found → Type 0
AreNamedFound (Tool name) path value features all_found = AreToolsFound path features all_found
AreNamedFound ExplicitRepository path value features all_found =
    AreFoundIn (IsNameFound path value) features.unknown all_found
AreNamedFound DiscoveredRepository path value features all_found =
    AreFoundIn (IsNameFound path value) features.unknown all_found

-- ---- their form

-- a feature, as a table enables it
abbrev pub feature_text : ConfigExperimental → List ℕ
feature_text feature = word_of feature ++ codes " = true"

-- the table that enables features
abbrev pub features_text : List ConfigExperimental → List ℕ
features_text [] = codes "{ }"
features_text (feature ∷ rest) =
    codes "{ " ++ (comma_list (map feature_text (feature ∷ rest)) ++ codes " }")

-- an array of features, with the table that enables those of them that are known
abbrev pub array_found : List PathStep → FeatureSetting → List Found
array_found path named = if named.array
    then found_at path (deprecated_array (features_text named.features.known)) ∷ []
    else []

-- what is said of the form in which a file of this kind names features
abbrev pub array_notes : ConfigSourceKind → List PathStep → FeatureSetting → List Found
array_notes (Tool name) path named = []
array_notes ExplicitRepository path named = array_found path named
array_notes DiscoveredRepository path named = array_found path named
