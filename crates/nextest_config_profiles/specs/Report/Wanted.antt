-- Keys of a profile that are wanted.
use Rattle.std.specs.Prelude.{◌≡◌, ◌≢◌, ℕ, Bool, List, [], ◌∷◌, ◌++◌, codes, flat_map, if◌then◌else◌, is_some, map, Option, Some, None, option_and_then, string_bytes}
use Rattle.std.specs.List.{AllByRecursion, join_by}
use Rattle.nextest_config_elements.specs.Fields.{Fields, KeyRule, Parts}
use Rattle.nextest_config_elements.specs.Keys.{profile_fields}
use Rattle.nextest_config_lint.specs.Conversion.{field_named}
use Rattle.nextest_config_profiles.specs.Report.Others.{other_keys}
use Rattle.nextest_config_profiles.specs.Report.Rows.{keys_of_member}
use Rattle.nextest_config_profiles.specs.Report.Setting.{all_settings, fields_below, SettingRule}
use Rattle.nextest_config_profiles.specs.Said.{Path}
use Rattle.nextest_config_profiles.specs.declared.report.wanted.WantedKey.{WantedKey}

-- the path of a wanted key, below a profile
abbrev pub path_of : WantedKey → Path
path_of wanted = map string_bytes wanted.keys.items

-- ---- paths as texts

-- keys with a dot between each two
abbrev pub dotted : Path → List ℕ
dotted keys = join_by (λ key. key) (codes ".") keys

-- no byte of the text is a dot
abbrev pub HasNoDot : List ℕ → Type 0
HasNoDot text = AllByRecursion (λ byte. byte ≢ 46) text

-- the text is one key or more with a dot between each two, and none of them has a dot
pub record IsPathText (text : List ℕ) (keys : Path) : Type 0 where
  pub some : keys ≢ []
  pub joined : dotted keys ≡ text
  pub no_dots : AllByRecursion HasNoDot keys

-- ---- the keys that the table of keys has below a profile

-- the field to which keys lead, one below the other, from a table with these fields
abbrev pub field_at : Path → Fields → Option (KeyRule × Parts)
field_at [] known = None
field_at (key ∷ []) known = field_named key known
field_at (key ∷ next ∷ rest) known = option_and_then
    (λ (found : KeyRule × Parts). field_at (next ∷ rest) (fields_below found.1))
    (field_named key known)

-- the table of keys has these below a profile
abbrev pub is_known : Path → Bool
is_known keys = is_some (field_at keys profile_fields)

-- the key that a text names: its path is the text cut at the dots, and the table of keys has it
abbrev pub IsKeyNamed : List ℕ → Option Path → Type 0
IsKeyNamed text named = (keys : Path) × IsPathText text keys
    × (named ≡ (if is_known keys then Some keys else None))

-- the paths of a setting: its own, and those of the keys of its table
abbrev pub paths_of : SettingRule → List Path
paths_of setting = setting.keys ∷ map (keys_of_member setting.keys) setting.members

-- the paths of all that is told: of settings, and of the other keys
abbrev pub told_paths : List Path
told_paths = flat_map paths_of all_settings ++ map (λ key. key ∷ []) other_keys
