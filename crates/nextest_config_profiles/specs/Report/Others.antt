-- What a profile has beside the settings that are read here.
use Rattle.std.specs.Prelude.{◌≡◌, ◌⊎◌, ◌&&◌, ℕ, Bool, not, if◌then◌else◌, List, [], ◌∷◌, ◌++◌, codes, nat_eq, Option, Some, None}
use Rattle.std.specs.Cmp.Lexicographic.{pointwise}
use Rattle.std.specs.List.{AllByRecursion, list_any}
use Rattle.toml.specs.Data.{Data}
use Rattle.nextest_config_elements.specs.Fields.{field, Fields, KeyRule, no_fields, Parts}
use Rattle.nextest_config_elements.specs.Keys.{profile_fields}
use Rattle.nextest_config_profiles.specs.Merged.{HasNoValue, IsMergedOver}
use Rattle.nextest_config_profiles.specs.Profile.{chain_in, layers_in}
use Rattle.nextest_config_profiles.specs.declared.last_value.LayerValue.{LayerValue}
use Rattle.nextest_config_profiles.specs.declared.profile.EffectiveProfile.{EffectiveProfile}
use Rattle.nextest_config_profiles.specs.Report.Literal.{IsLiteralOf}
use Rattle.nextest_config_profiles.specs.Report.Rows.{IsLastAt}
use Rattle.nextest_config_profiles.specs.Report.Setting.{is_setting, rules_in, table_fields}
use Rattle.nextest_config_profiles.specs.Report.Somes.{AreSomes}
use Rattle.nextest_config_profiles.specs.Report.Source.{IsSource}
use Rattle.nextest_config_profiles.specs.declared.report.parts.OtherKey.{OtherKey}

-- settings stand in the table at a key of a profile
abbrev pub has_settings : KeyRule → Parts → Bool
has_settings rule parts = list_any (λ inner. is_setting (rule.key ∷ []) inner.absent)
    (rules_in (table_fields rule.shape parts))

-- the word is none of these
abbrev pub is_none_of : List (List ℕ) → List ℕ → Bool
is_none_of words word = not (list_any (λ other. pointwise nat_eq other word) words)

-- a key of a profile is told by itself: no setting is told at it, and neither the chain nor the
-- overrides are made by it
abbrev pub is_other : KeyRule → Parts → Bool
is_other rule parts = (not (is_setting [] rule.absent) && not (has_settings rule parts))
    && is_none_of (codes "inherits" ∷ codes "overrides" ∷ []) rule.key

-- of fields the keys that are told by themselves
abbrev pub others_among : Fields → List (List ℕ)
others_among no_fields = []
others_among (field rule parts rest) =
    if is_other rule parts then rule.key ∷ others_among rest else others_among rest

-- the other keys that are known in a profile
abbrev pub other_keys : List (List ℕ)
other_keys = others_among profile_fields

-- what a profile has at a key, as the layers are merged, and which layer said so last
pub record IsOtherOf (effective : EffectiveProfile) (key : List ℕ) (profile : List ℕ)
    (other : OtherKey) : Type 0 where
  pub found : LayerValue
  pub is_last : IsLastAt effective profile (key ∷ []) (Some found)
  pub value : Data
  pub is_merged : IsMergedOver (layers_in effective) (profile ∷ key ∷ []) value
  pub key_is : other.key.now ≡ key
  pub literal_is : IsLiteralOf value other.literal
  pub source_is : IsSource effective found.layer profile (key ∷ []) other.source

-- a profile has nothing at a key
abbrev pub PassesOther : EffectiveProfile → List ℕ → List ℕ → Type 0
PassesOther effective key profile = IsLastAt effective profile (key ∷ []) None
    ⊎ HasNoValue (layers_in effective) (profile ∷ key ∷ [])

-- the first profile of a chain that has something at a key has this there
pub record IsFirstOther (effective : EffectiveProfile) (key : List ℕ) (chain : List (List ℕ))
    (other : OtherKey) : Type 0 where
  pub before : List (List ℕ)
  pub profile : List ℕ
  pub after : List (List ℕ)
  pub whole : chain ≡ before ++ (profile ∷ after)
  pub passed : AllByRecursion (PassesOther effective key) before
  pub is_other : IsOtherOf effective key profile other

-- what the first profile of a chain that has something at a key has there, if one has
abbrev pub IsOtherIn : EffectiveProfile → List ℕ → List (List ℕ) → Option OtherKey → Type 0
IsOtherIn effective key chain None = AllByRecursion (PassesOther effective key) chain
IsOtherIn effective key chain (Some other) = IsFirstOther effective key chain other

-- what the first profile of the whole chain that has something at a key has there, if one has
abbrev pub IsOther : EffectiveProfile → List ℕ → Option OtherKey → Type 0
IsOther effective key = IsOtherIn effective key (chain_in effective)

-- what else the profile has, key by key
abbrev pub AreOthers : EffectiveProfile → List OtherKey → Type 0
AreOthers effective = AreSomes (IsOther effective) other_keys
