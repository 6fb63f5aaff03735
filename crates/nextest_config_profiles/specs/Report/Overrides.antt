-- What is told of overrides.
use Rattle.std.specs.Prelude.{◌≡◌, ℕ, Bool, List, [], ◌∷◌, codes, filter, Option, Some, None, option_and_then}
use Rattle.std.specs.List.{AllZip}
use Rattle.toml.specs.Data.{as_table, Data, get_member}
use Rattle.nextest_config_elements.specs.Fields.{field_words}
use Rattle.nextest_config_elements.specs.Keys.{override_fields}
use Rattle.toml_spans.specs.Step.{index, key, PathStep}
use Rattle.toml_spans.specs.declared.place.Span.{Span}
use Rattle.nextest_config_profiles.specs.Layer.{IsSpanAt}
use Rattle.nextest_config_profiles.specs.Profile.{chain_in, file_in, layers_in}
use Rattle.nextest_config_profiles.specs.declared.layer.Layer.{Layer}
use Rattle.nextest_config_profiles.specs.declared.profile.EffectiveProfile.{EffectiveProfile}
use Rattle.nextest_config_profiles.specs.Report.Elements.{all_elements, ElementValue}
use Rattle.nextest_config_profiles.specs.Report.Literal.{IsLiteralIf}
use Rattle.nextest_config_profiles.specs.Report.Others.{is_none_of}
use Rattle.nextest_config_profiles.specs.Report.Somes.{AreSomes}
use Rattle.nextest_config_profiles.specs.Report.Source.{IsPlaceIn}
use Rattle.nextest_config_profiles.specs.declared.report.parts.Override.{Override}
use Rattle.nextest_config_profiles.specs.declared.report.parts.OverrideSetting.{OverrideSetting}
use Rattle.nextest_config_profiles.specs.declared.report.parts.Source.{Source}

-- a key isn't one by which an override selects tests
abbrev pub is_told : List ℕ → Bool
is_told = is_none_of (codes "filter" ∷ codes "platform" ∷ [])

-- the keys that are known in an override, but for those by which it selects tests
abbrev pub override_keys : List (List ℕ)
override_keys = filter is_told (field_words override_fields)

-- what a value has at a key
abbrev pub member_at : List ℕ → Data → Option Data
member_at name value = option_and_then (get_member name) (as_table value)

-- a key with its value, if an override has it
abbrev pub IsSet : Data → List ℕ → Option OverrideSetting → Type 0
IsSet value name None = member_at name value ≡ None
IsSet value name (Some setting) =
    (setting.key.now ≡ name) × IsLiteralIf (member_at name value) (Some setting.literal)

-- the keys that an override sets
abbrev pub AreSettings : Data → List OverrideSetting → Type 0
AreSettings value = AreSomes (IsSet value) override_keys

-- the path of an override, from the top
abbrev pub steps_to_element : ElementValue → List PathStep
steps_to_element element = key (codes "profile") ∷ key element.profile ∷ key (codes "overrides")
    ∷ index element.position ∷ []

-- the range of a path in the file of a layer
abbrev pub IsSpanOfElement : Option Layer → List PathStep → Option Span → Type 0
IsSpanOfElement None steps span = span ≡ None
IsSpanOfElement (Some file) steps span = IsSpanAt file steps span

-- where an override begins
pub record IsElementSource (effective : EffectiveProfile) (element : ElementValue) (source : Source)
    : Type 0 where
  pub of_profile : source.profile.now ≡ element.profile
  pub span : Option Span
  pub in_index : IsSpanOfElement (file_in effective element.layer) (steps_to_element element) span
  pub in_file : IsPlaceIn (file_in effective element.layer) span source.file

-- an override, as it is told: where it begins, what selects its tests, and the keys that it sets
pub record IsOverride (effective : EffectiveProfile) (element : ElementValue) (shown : Override)
    : Type 0 where
  pub source_is : IsElementSource effective element shown.source
  pub filter_is : IsLiteralIf (member_at (codes "filter") element.value) shown.filter
  pub platform_is : IsLiteralIf (member_at (codes "platform") element.value) shown.platform
  pub settings_are : AreSettings element.value shown.settings.items

-- the overrides of the profiles of the chain: those of a profile before those of what it falls back
-- on, of a profile those of the highest file first
abbrev pub AreOverrides : EffectiveProfile → List Override → Type 0
AreOverrides effective overrides =
    AllZip (IsOverride effective) (all_elements (layers_in effective) (chain_in effective))
    overrides
