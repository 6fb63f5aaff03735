-- What is told of a setting, key by key.
use Rattle.std.specs.Prelude.{◌≡◌, ◌&&◌, ◌||◌, ℕ, Bool, true, false, List, [], ◌∷◌, ◌++◌, codes, filter, is_some, length, map, not, Option, Some, None, string_bytes}
use Rattle.std.specs.List.{AllZip}
use Rattle.toml.specs.Data.{as_table, Data, integer, string}
use Rattle.toml.specs.View.{view}
use Rattle.nextest_config_values.specs.Read.{fault_of, fault_text, read_fault_at}
use Rattle.nextest_config_values.specs.Read.Fault.{Fault}
use Rattle.nextest_config_values.specs.declared.read.value_fault.ValueFault.{ValueFault}
use Rattle.nextest_config_elements.specs.Fields.{Absent, KeyRule, taken}
use Rattle.nextest_config_lint.specs.Conversion.{IsConvertedAt}
use Rattle.nextest_config_profiles.specs.Profile.{chain_in, layers_in}
use Rattle.nextest_config_profiles.specs.Reach.{words_of}
use Rattle.nextest_config_profiles.specs.Said.{Path}
use Rattle.nextest_config_profiles.specs.declared.last_value.LayerValue.{LayerValue}
use Rattle.nextest_config_profiles.specs.declared.profile.EffectiveProfile.{EffectiveProfile}
use Rattle.nextest_config_profiles.specs.Report.Given.{IsGivenFor}
use Rattle.nextest_config_profiles.specs.Report.Hidden.{AreHidden}
use Rattle.nextest_config_profiles.specs.Report.Literal.{IsLiteralIf, IsLiteralOf}
use Rattle.nextest_config_profiles.specs.Report.Remark.{IsRemark}
use Rattle.nextest_config_profiles.specs.Report.Setting.{rule_of, SettingRule}
use Rattle.nextest_config_profiles.specs.Report.Somes.{AreSomes}
use Rattle.nextest_config_profiles.specs.Report.Source.{IsSource}
use Rattle.nextest_config_profiles.specs.Report.Written.{IsDoubted}
use Rattle.nextest_config_profiles.specs.declared.report.given.Given.{Given}
use Rattle.nextest_config_profiles.specs.declared.report.given.Given.TheVariants as given
use Rattle.nextest_config_profiles.specs.declared.report.rows.GivenSetting.{GivenSetting}
use Rattle.nextest_config_profiles.specs.declared.report.parts.FaultSource.{FaultSource}
use Rattle.nextest_config_profiles.specs.declared.report.parts.Literal.{Literal}
use Rattle.nextest_config_profiles.specs.declared.report.parts.Row.{Row}
use Rattle.nextest_config_profiles.specs.declared.report.parts.Source.{Source}
use Rattle.nextest_config_profiles.specs.declared.report.parts.KeyState.{KeyState}
use Rattle.nextest_config_profiles.specs.declared.report.parts.KeyState.TheVariants as states
pub use Rattle.nextest_config_profiles.specs.Report.At.{At, IsLastAt}

-- a setting that a profile of the chain gives, as the code has it
abbrev pub at_of : GivenSetting → At
at_of given = record {
  effective = given.effective.now;
  profile = given.profile.now;
  setting = rule_of given.setting;
  judged = given.is_judged;
  hiding = given.shows_hidden;
}

-- ---- a value that stands in a layer

-- a value is sure: its setting is judged, nextest doesn't convert it, and nothing is wrong with it
-- by nextest's documentation
abbrev pub IsSure : At → Path → Data → Type 0
IsSure at keys value = (at.judged ≡ true) × (IsConvertedAt keys value → ⊥)
    × (IsDoubted at.setting.rule.severity keys value → ⊥)

-- what is told of a value that stands in a layer: it and its place, and whether it is judged
abbrev pub IsGivenState : At → Option (List ℕ) → Path → LayerValue → KeyState → Type 0
IsGivenState at member keys found (states.Value literal source remark) =
    IsSure at keys (view found.value.now)
    × IsLiteralOf (view found.value.now) literal
    × IsSource at.effective found.layer at.profile keys source
    × IsRemark at member (view found.value.now) remark
IsGivenState at member keys found (states.NotJudged literal source) =
    (IsSure at keys (view found.value.now) → ⊥)
    × IsLiteralOf (view found.value.now) literal
    × IsSource at.effective found.layer at.profile keys source
IsGivenState at member keys found other = ⊥

-- the row of a value that stands in a layer, with what it hides
pub record IsGivenRow (at : At) (member : Option (List ℕ)) (keys : Path) (found : LayerValue)
    (row : Row) : Type 0 where
  pub keys_are : words_of row.keys.items ≡ keys
  pub state_is : IsGivenState at member keys found row.state
  pub hides : AreHidden at.effective at.hiding at.profile keys found.layer row.hidden.items

-- ---- a key that no layer has

-- what the reader of a table takes for a key that is absent, if anything
abbrev pub value_taken : Absent → Option Data
value_taken (taken value) = value
value_taken other = None

-- a value told as one kind of row, or, where there is none, that nothing gives it
abbrev pub state_as : (Literal → KeyState) → Option Literal → KeyState
state_as kind (Some literal) = kind literal
state_as kind None = states.Unset

-- what a reader takes for a key that is absent, as one kind of row, or that nothing gives it
pub record IsAbsentState (kind : Literal → KeyState) (absent : Absent) (so : KeyState) : Type 0
  where
    pub literal : Option Literal
    pub is_taken : IsLiteralIf (value_taken absent) literal
    pub is_state : so ≡ state_as kind literal

-- the row of a key that no layer has: what its reader takes there, with what that hides
pub record IsAbsentRow (at : At) (keys : Path) (absent : Absent) (row : Row) : Type 0 where
  pub keys_are : words_of row.keys.items ≡ keys
  pub state_is : IsAbsentState states.Default absent row.state
  pub hides : AreHidden at.effective at.hiding at.profile keys (length (layers_in at.effective))
      row.hidden.items

-- ---- a table, key by key

-- the row of a key of a table, where this is what the last layer has there, if anything
abbrev pub IsFoundMember : At → KeyRule → Path → Option LayerValue → Row → Type 0
IsFoundMember at member keys (Some found) = IsGivenRow at (Some member.key) keys found
IsFoundMember at member keys None = IsAbsentRow at keys member.absent

-- the path of a key of the table at a path
abbrev pub keys_of_member : Path → KeyRule → Path
keys_of_member keys member = keys ++ (member.key ∷ [])

-- the row of a key of the table of a setting
abbrev pub IsMemberRow : At → KeyRule → Row → Type 0
IsMemberRow at member row = (found : Option LayerValue)
    × IsLastAt at.effective at.profile (keys_of_member at.setting.keys member) found
    × IsFoundMember at member (keys_of_member at.setting.keys member) found row

-- ---- a text or a number in the place of a table

-- the value in the place of the table says nothing of the key: a table need not have it, or
-- something is taken for it
abbrev pub is_implied : KeyRule → Bool
is_implied rule = not rule.required || is_some (value_taken rule.absent)

-- a row that hides nothing
pub record IsBareRow (keys : Path) (IsSo : KeyState → Type 0) (row : Row) : Type 0 where
  pub keys_are : words_of row.keys.items ≡ keys
  pub state_is : IsSo row.state
  pub hides : row.hidden.items ≡ []

-- the row of a key of a table in the place of which a text or a number stands
abbrev pub IsImpliedRow : Path → KeyRule → Row → Type 0
IsImpliedRow keys member =
    IsBareRow (keys_of_member keys member) (IsAbsentState states.Implied member.absent)

-- the value is a text or a number, which stands for the table that a setting may have
abbrev pub stands_for_table : Data → Bool
stands_for_table (string text) = true
stands_for_table (integer number) = true
stands_for_table other = false

-- the rows of the other keys of a table, where a text or a number stands in its place
abbrev pub AreImplied : Bool → SettingRule → List Row → Type 0
AreImplied true setting rows =
    AllZip (IsImpliedRow setting.keys) (filter is_implied setting.members) rows
AreImplied false setting rows = rows ≡ []

-- the row of a value, and those of the other keys of the table for which it stands
pub record AreWholeRows (at : At) (found : LayerValue) (rows : List Row) : Type 0 where
  pub first : Row
  pub rest : List Row
  pub whole : rows ≡ first ∷ rest
  pub is_first : IsGivenRow at None at.setting.keys found first
  pub are_rest : AreImplied (stands_for_table (view found.value.now)) at.setting rest

-- ---- all kinds of values

-- the value is a table
abbrev pub is_table : Data → Bool
is_table value = is_some (as_table value)

-- there is a key
abbrev pub has_members : List KeyRule → Bool
has_members [] = false
has_members (first ∷ rest) = true

-- the value is a table whose keys are told one by one
abbrev pub has_parts : SettingRule → Data → Bool
has_parts setting value = is_table value && has_members setting.members

-- the rows of what a layer has for a setting: of a table key by key, else of the whole value
abbrev pub AreFoundRows : At → LayerValue → Bool → List Row → Type 0
AreFoundRows at found true rows = AllZip (IsMemberRow at) at.setting.members rows
AreFoundRows at found false rows = AreWholeRows at found rows

-- there is one row, which is so
abbrev pub IsAlone : (Row → Type 0) → List Row → Type 0
IsAlone IsSo rows = (row : Row) × IsSo row × (rows ≡ row ∷ [])

-- the rows of what the last layer has for a setting, or one that tells that nothing gives it
abbrev pub AreRowsOf : At → Option LayerValue → List Row → Type 0
AreRowsOf at (Some found) = AreFoundRows at found (has_parts at.setting (view found.value.now))
AreRowsOf at None = IsAlone (IsBareRow at.setting.keys (λ so. so ≡ states.Unset))

-- the rows of a value that a profile gives a setting, by the last layer that says anything of it
abbrev pub AreValueRows : At → List Row → Type 0
AreValueRows at rows = (found : Option LayerValue)
    × IsLastAt at.effective at.profile at.setting.keys found × AreRowsOf at found rows

-- ---- a fault

-- where a layer has what was found at keys of a profile, if something was
abbrev pub IsSourceOfFound : EffectiveProfile → List ℕ → Path → Option LayerValue → Option Source
    → Type 0
IsSourceOfFound effective profile keys None source = source ≡ None
IsSourceOfFound effective profile keys (Some found) None = ⊥
IsSourceOfFound effective profile keys (Some found) (Some source) =
    IsSource effective found.layer profile keys source

-- where the last layer that says anything of these keys has them
abbrev pub IsSourceOf : EffectiveProfile → List ℕ → Path → Option Source → Type 0
IsSourceOf effective profile keys source = (found : Option LayerValue)
    × IsLastAt effective profile keys found × IsSourceOfFound effective profile keys found source

-- keys and where the last layer that says anything of them has them, if they have a value
abbrev pub IsPlaceOf : EffectiveProfile → List ℕ → Path → Option FaultSource → Type 0
IsPlaceOf effective profile keys None = IsSourceOf effective profile keys None
IsPlaceOf effective profile keys (Some place) =
    (words_of place.keys.items ≡ keys) × IsSourceOf effective profile keys (Some place.source)

-- the paths of the parts of a table: those of the keys that it may have
abbrev pub parts_if : SettingRule → Bool → List Path
parts_if setting true = map (keys_of_member setting.keys) setting.members
parts_if setting false = []

-- the paths of the parts of what was found for a setting: of a table those of its keys, else none
abbrev pub parts_of : SettingRule → Option LayerValue → List Path
parts_of setting None = []
parts_of setting (Some found) = parts_if setting (is_table (view found.value.now))

-- where the values of paths stand that have one
abbrev pub ArePlacesAt : EffectiveProfile → List ℕ → List Path → List FaultSource → Type 0
ArePlacesAt effective profile = AreSomes (IsPlaceOf effective profile)

-- the places of parts, or where there is none that of the whole
abbrev pub AreOrWhole : EffectiveProfile → List ℕ → Path → List FaultSource → List FaultSource
    → Type 0
AreOrWhole effective profile keys [] sources = ArePlacesAt effective profile (keys ∷ []) sources
AreOrWhole effective profile keys (first ∷ rest) sources = sources ≡ first ∷ rest

-- where the parts of what a profile has for a setting stand: the keys of a table that have a value,
-- or else the whole
pub record ArePlacesOf (effective : EffectiveProfile) (profile : List ℕ) (setting : SettingRule)
    (sources : List FaultSource) : Type 0 where
  pub found : Option LayerValue
  pub is_last : IsLastAt effective profile setting.keys found
  pub parts : List FaultSource
  pub are_parts : ArePlacesAt effective profile (parts_of setting found) parts
  pub whole : AreOrWhole effective profile setting.keys parts sources

-- the text is what the fault says
abbrev pub IsMessage : Option Fault → List ℕ → Type 0
IsMessage None text = ⊥
IsMessage (Some fault) text = text ≡ fault_text (read_fault_at [] fault)

-- what is told of a fault of a setting: what it says, and where the parts of the value stand
abbrev pub IsFaultState : EffectiveProfile → List ℕ → SettingRule → ValueFault → KeyState → Type 0
IsFaultState effective profile setting fault (states.Fault message sources) =
    IsMessage (fault_of fault) (string_bytes message)
    × ArePlacesOf effective profile setting sources.items
IsFaultState effective profile setting fault other = ⊥

-- ---- nothing

-- what is told of a setting that no profile gives, where the last layer has this for `default`
abbrev pub IsTakenAway : EffectiveProfile → SettingRule → Option LayerValue → KeyState → Type 0
IsTakenAway effective setting None so = so ≡ states.Unset
IsTakenAway effective setting (Some found) (states.NoValue source) =
    IsSource effective found.layer (codes "default") setting.keys source
IsTakenAway effective setting (Some found) other = ⊥

-- nothing gives the setting, or what `default` has takes it away
abbrev pub IsNothingState : EffectiveProfile → SettingRule → KeyState → Type 0
IsNothingState effective setting so = (found : Option LayerValue)
    × IsLastAt effective (codes "default") setting.keys found
    × IsTakenAway effective setting found so

-- the row of a setting that no profile gives
abbrev pub IsNothingRow : EffectiveProfile → SettingRule → Row → Type 0
IsNothingRow effective setting = IsBareRow setting.keys (IsNothingState effective setting)

-- ---- a setting

-- the setting that this profile gives, judged or not, told with what it hides or without
abbrev pub at : EffectiveProfile → Bool → SettingRule → List ℕ → Bool → At
at effective hiding setting profile judged = record {
  effective = effective;
  profile = profile;
  setting = setting;
  judged = judged;
  hiding = hiding;
}

-- the rows of a setting for which this is given
abbrev pub AreRowsFor : EffectiveProfile → Bool → SettingRule → Given → List Row → Type 0
AreRowsFor effective hiding setting (given.Value profile) =
    AreValueRows (at effective hiding setting profile.now true)
AreRowsFor effective hiding setting (given.NotJudged profile) =
    AreValueRows (at effective hiding setting profile.now false)
AreRowsFor effective hiding setting (given.Fault profile fault) =
    IsAlone (IsBareRow setting.keys (IsFaultState effective profile.now setting fault))
AreRowsFor effective hiding setting given.Nothing = IsAlone (IsNothingRow effective setting)

-- what is told of a setting: what the profile gets for it
abbrev pub AreRows : EffectiveProfile → Bool → SettingRule → List Row → Type 0
AreRows effective hiding setting rows = (given : Given)
    × IsGivenFor effective (chain_in effective) setting given
    × AreRowsFor effective hiding setting given rows
