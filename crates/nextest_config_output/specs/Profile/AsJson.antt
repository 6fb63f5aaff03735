-- A profile as programs read it: an object of JSON (RFC 8259).
use Rattle.std.specs.Prelude.{◌≡◌, ◌≤◌, ℕ, false, List, ◌∷◌, ◌++◌, codes, flat_map, fold, map, Option, Some, None}
use Rattle.std.proofs.Common.{Global, Vec}
use Rattle.json.specs.Lex.{tokens}
use Rattle.json.specs.Print.{print}
use Rattle.serde_json.specs.Data.{array, Data, depth, member, Members, no_members, null, object, put, string}
use Rattle.serde_json.specs.Read.{max_depth, read}
use Rattle.serde_json.specs.View.{items_of}
use Rattle.serde_json.specs.Written.{compact_text, has_float, IsInOrder}
use Rattle.nextest_config_report.specs.Show.{array_of}
use Rattle.nextest_config_profiles.specs.declared.report.profile_report.ProfileReport.{ProfileReport}
use Rattle.nextest_config_profiles.specs.declared.report.parts.ChainProfile.{ChainProfile}
use Rattle.nextest_config_profiles.specs.declared.report.parts.Literal.{Literal}
use Rattle.nextest_config_profiles.specs.declared.report.parts.Override.{Override}
use Rattle.nextest_config_profiles.specs.declared.report.parts.OverrideSetting.{OverrideSetting}
use Rattle.nextest_config_profiles.specs.declared.report.parts.Row.{Row}
use Rattle.nextest_config_output.specs.Profile.Chain.{name_of}
use Rattle.nextest_config_output.specs.Profile.Object.{hidden_data, literal_data, other_data, row_data}
use Rattle.nextest_config_output.specs.Profile.Location.{location_if, location_of, number_data, text_data}

-- ---- the object of a profile

-- the object of a key, and behind it those of what it hides
abbrev pub row_objects : Row → List Data
row_objects row = row_data row ∷ map hidden_data row.hidden.items

-- the array of all keys of all settings, each with what it hides behind it
abbrev pub settings_data : List (Vec Row Global) → Data
settings_data settings =
    array (items_of (flat_map (λ rows. flat_map row_objects rows.items) settings))

-- a value as JSON has it; null where there is none
abbrev pub literal_or_null : Option Literal → Data
literal_or_null (Some literal) = literal_data literal
literal_or_null None = null

-- the keys that an override sets, each with its value
abbrev pub pairs_data : List OverrideSetting → Members
pairs_data settings =
    fold (λ pairs setting. put setting.key.now (literal_data setting.literal) pairs) no_members
    settings

-- an override: `column`, `filter`, `line`, `path`, `platform`, `profile` and `settings`
abbrev pub override_data : Override → Data
override_data one = let location = location_of one.source in object
    (member (codes "column") (number_data location.column)
    (member (codes "filter") (literal_or_null one.filter)
    (member (codes "line") (number_data location.line)
    (member (codes "path") (text_data location.path)
    (member (codes "platform") (literal_or_null one.platform)
    (member (codes "profile") (text_data location.profile)
    (member (codes "settings") (object (pairs_data one.settings.items)) no_members)))))))

-- a profile of the chain, and where it inherits: `column`, `line`, `path` and `profile`
abbrev pub chain_data : ChainProfile → Data
chain_data profile = let location = location_if profile.inherits in object
    (member (codes "column") (number_data location.column)
    (member (codes "line") (number_data location.line)
    (member (codes "path") (text_data location.path)
    (member (codes "profile") (string profile.name.now) no_members))))

-- a profile: `chain`, `others`, `overrides`, `profile` and `settings`
abbrev pub report_data : ProfileReport → Data
report_data report = object
    (member (codes "chain") (array_of chain_data report.chain.items)
    (member (codes "others") (array_of other_data report.others.items)
    (member (codes "overrides") (array_of override_data report.overrides.items)
    (member (codes "profile") (string (name_of report.chain.items))
    (member (codes "settings") (settings_data report.settings.items) no_members)))))

-- ---- its text

-- the value as `serde_json` writes it, without white space. Where it holds a float, whose digits
-- `serde_json` doesn't promise, this is what its text reads as, and in which order
pub record IsJsonText (value : Data) (text : List ℕ) : Type 0 where
  pub exact : has_float value ≡ false → text ≡ compact_text value
  pub compact : text ≡ print (tokens text)
  pub order : IsInOrder text value
  pub reads_back : depth value ≤ max_depth → read text ≡ Some value

-- the line is a text of the value in JSON, and a line feed
abbrev pub IsJsonLine : Data → List ℕ → Type 0
IsJsonLine value line = (text : List ℕ) × (line ≡ text ++ codes "\n") × IsJsonText value text
