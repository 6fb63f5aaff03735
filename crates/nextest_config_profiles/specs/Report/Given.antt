-- Which profile gives a setting, and whether what it gives is a value.
use Rattle.std.specs.Prelude.{◌≡◌, ◌⊎◌, ℕ, List, ◌∷◌, if◌then◌else◌, Option, Some, None, string_bytes}
use Rattle.std.proofs.Common.{Global}
use Rattle.toml.specs.Data.{Data}
use Rattle.nextest_config_values.specs.Read.{made_of, only, Reading, text_reading}
use Rattle.nextest_config_elements.specs.Fields.{KeyRule}
use Rattle.nextest_config_elements.specs.Readers.{read_by, reader_of, ReaderOf, unread}
use Rattle.nextest_config_elements.specs.SlowTimeout.{slow_timeout_reading}
use Rattle.nextest_config_elements.specs.declared.field.Shape.{Shape}
use Rattle.nextest_config_elements.specs.declared.field.Shape.TheVariants as shapes
use Rattle.nextest_config_values.specs.declared.read.value_fault.ValueFault.{ValueFault}
use Rattle.nextest_config_lint.specs.Conversion.{IsConvertedAt}
use Rattle.nextest_config_profiles.specs.Effective.{IsEffective}
use Rattle.nextest_config_profiles.specs.Merged.{HasNoValue, IsMergedOver}
use Rattle.nextest_config_profiles.specs.Profile.{layers_in}
use Rattle.nextest_config_profiles.specs.Said.{Path}
use Rattle.nextest_config_profiles.specs.declared.effective.Effective.{Effective}
use Rattle.nextest_config_profiles.specs.declared.effective.Effective.TheVariants as effective
use Rattle.nextest_config_profiles.specs.declared.profile.EffectiveProfile.{EffectiveProfile}
use Rattle.nextest_config_profiles.specs.Report.Converted.{IsRestRead, IsUnconverted}
use Rattle.nextest_config_profiles.specs.Report.Setting.{SettingRule}
use Rattle.nextest_config_profiles.specs.declared.report.given.Given.{Given}
use Rattle.nextest_config_profiles.specs.declared.report.given.Given.TheVariants as given
use Rattle.nextest_config_profiles.specs.Report.Written.{is_documented}
use Rattle.nextest_config_profiles.specs.declared.report.written.Written.{Written}

-- what is given, without the value
abbrev pub given_of : {X : Type 0} → Effective X → Given
given_of (effective.Value profile x) = given.Value profile
given_of (effective.NotJudged profile) = given.NotJudged profile
given_of (effective.Fault profile fault) = given.Fault profile fault
given_of effective.Nothing = given.Nothing

-- what the first of profiles that has something at keys gives there by a reading
abbrev pub IsGivenBy : {X Y : Type 0} → (X → Y) → Reading Data (Option Y) → EffectiveProfile
    → List (List ℕ) → Path → Given → Type 0
IsGivenBy {X} {Y} seen reading profile names keys given =
    (effective : Effective X)
    × IsEffective seen reading (layers_in profile) keys names effective
    × (given ≡ given_of effective)

-- what the first of profiles gives at keys by a reading of which no value says that there is none
abbrev pub IsGivenValue : {X Y : Type 0} → (X → Y) → Reading Data Y → EffectiveProfile
    → List (List ℕ) → Path → Given → Type 0
IsGivenValue seen reading = IsGivenBy seen (made_of Some reading)

-- what is given at keys of a shape that no type reads: a text, or what is written there
abbrev pub IsGivenUnread : Shape → EffectiveProfile → List (List ℕ) → Path → Given → Type 0
IsGivenUnread shapes.Text = IsGivenValue (string_bytes {Z = Global}) text_reading
IsGivenUnread other = IsGivenValue (λ (it : Written). tt {0}) (only (tt {0}))

-- what is given at keys by the type that reads a shape, or this where none does
abbrev pub IsGivenRead : (EffectiveProfile → List (List ℕ) → Path → Given → Type 0) → ReaderOf
    → EffectiveProfile → List (List ℕ) → Path → Given → Type 0
IsGivenRead otherwise unread = otherwise
IsGivenRead otherwise (read_by seen reading) = IsGivenBy seen reading

-- what the first of profiles gives at keys that have a value of a shape
abbrev pub IsGivenAs : Shape → EffectiveProfile → List (List ℕ) → Path → Given → Type 0
IsGivenAs shape = IsGivenRead (IsGivenUnread shape) (reader_of shape)

-- the shape by which a value is read: any, of what is known from nextest's documentation alone
abbrev pub shape_read : KeyRule → Shape
shape_read rule = if is_documented rule.severity then shapes.Any else rule.shape

-- what the first of these profiles that has a setting gives it, as it stands
abbrev pub IsReadFor : EffectiveProfile → List (List ℕ) → SettingRule → Given → Type 0
IsReadFor profile names setting = IsGivenAs (shape_read setting.rule) profile names setting.keys

-- ---- but for what nextest may convert

-- a value of this profile is given
abbrev pub IsValueOf : List ℕ → Given → Type 0
IsValueOf name (given.Value profile) = profile.now ≡ name
IsValueOf name other = ⊥

-- this fault of this profile is given
abbrev pub IsThatFault : List ℕ → ValueFault → Given → Type 0
IsThatFault name fault (given.Fault profile refused) = (profile.now ≡ name) × (refused ≡ fault)
IsThatFault name fault other = ⊥

-- without a part that nextest may convert the rest is read; without such a part the fault stays
abbrev pub IsPartJudged : List ℕ → ValueFault → Option Data → Given → Type 0
IsPartJudged name fault (Some rest) given = IsRestRead slow_timeout_reading name rest given
IsPartJudged name fault None given = IsThatFault name fault given

-- what is told of a value with a fault: nextest may convert the whole, or a part, or nothing
abbrev pub IsValueJudged : Path → List ℕ → ValueFault → Data → Given → Type 0
IsValueJudged keys name fault value judged =
    (IsConvertedAt keys value × IsValueOf name judged)
    ⊎ ((IsConvertedAt keys value → ⊥) × ((rest : Option Data) × IsUnconverted keys value rest
    × IsPartJudged name fault rest judged))

-- what is told of a fault of what a profile has for a setting, as the layers are merged
abbrev pub IsFaultJudged : EffectiveProfile → SettingRule → List ℕ → ValueFault → Given → Type 0
IsFaultJudged profile setting name fault judged =
    (HasNoValue (layers_in profile) (name ∷ setting.keys) × IsThatFault name fault judged)
    ⊎ ((value : Data) × IsMergedOver (layers_in profile) (name ∷ setting.keys) value
    × IsValueJudged setting.keys name fault value judged)

-- what is given for a setting stays, but for a fault of what nextest may convert
abbrev pub IsJudged : EffectiveProfile → SettingRule → Given → Given → Type 0
IsJudged profile setting (given.Fault name fault) judged =
    IsFaultJudged profile setting name.now fault judged
IsJudged profile setting given judged = judged ≡ given

-- what the first of these profiles that has a setting gives it, but for what nextest may convert in
-- it
abbrev pub IsGivenFor : EffectiveProfile → List (List ℕ) → SettingRule → Given → Type 0
IsGivenFor profile names setting judged = (given : Given) × IsReadFor profile names setting given
    × IsJudged profile setting given judged
