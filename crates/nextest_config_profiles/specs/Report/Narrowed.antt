-- Of what is reported of a profile that of wanted keys alone.
use Rattle.std.specs.Prelude.{◌&&◌, ◌||◌, ℕ, Bool, true, false, List, [], ◌∷◌, codes, filter, is_some, map, Option, Some, option_and_then}
use Rattle.std.specs.List.{list_any}
use Rattle.toml.specs.Data.{Data}
use Rattle.toml.specs.View.{view}
use Rattle.nextest_config_lint.specs.Conversion.{is_word}
use Rattle.nextest_config_profiles.specs.Reach.{words_of}
use Rattle.nextest_config_profiles.specs.Report.Overrides.{member_at}
use Rattle.nextest_config_profiles.specs.Report.Setting.{all_settings}
use Rattle.nextest_config_profiles.specs.Said.{Path}
use Rattle.nextest_config_profiles.specs.declared.report.parts.OtherKey.{OtherKey}
use Rattle.nextest_config_profiles.specs.declared.report.parts.Override.{Override}
use Rattle.nextest_config_profiles.specs.declared.report.parts.OverrideSetting.{OverrideSetting}
use Rattle.nextest_config_profiles.specs.declared.report.parts.Row.{Row}

-- ---- settings and other keys

-- one of the paths begins with the other one
abbrev pub are_related : Path → Path → Bool
are_related [] other = true
are_related (key ∷ keys) [] = true
are_related (key ∷ keys) (first ∷ other) = is_word key first && are_related keys other

-- a path is a wanted one, or lies above or below one
abbrev pub is_related : List Path → Path → Bool
is_related wanted keys = list_any (are_related keys) wanted

-- of rows those that are wanted
abbrev pub rows_wanted : List Path → List Row → List Row
rows_wanted wanted = filter (λ row. is_related wanted (words_of row.keys.items))

-- there is a row
abbrev pub has_rows : List Row → Bool
has_rows [] = false
has_rows (row ∷ rows) = true

-- of the rows of settings those that are wanted, but for settings without such a row
abbrev pub settings_wanted : List Path → List (List Row) → List (List Row)
settings_wanted wanted settings = filter has_rows (map (rows_wanted wanted) settings)

-- of other keys those that are wanted
abbrev pub others_wanted : List Path → List OtherKey → List OtherKey
others_wanted wanted = filter (λ other. is_related wanted (other.key.now ∷ []))

-- ---- overrides

-- what keys lead to in a value
abbrev pub value_below : Path → Data → Option Data
value_below [] value = Some value
value_below (key ∷ keys) value = option_and_then (value_below keys) (member_at key value)

-- a key that is set is the first of these, and its value has one at the rest of them
abbrev pub sets_at : List ℕ → Path → OverrideSetting → Bool
sets_at key keys set =
    is_word set.key.now key && is_some (value_below keys (view set.literal.value))

-- an override has a value at these keys
abbrev pub has_value : Path → Override → Bool
has_value [] shown = false
has_value (key ∷ keys) shown = list_any (sets_at key keys) shown.settings.items

-- an override sets this key
abbrev pub sets_key : Override → List ℕ → Bool
sets_key shown key = list_any (λ set. is_word set.key.now key) shown.settings.items

-- the path is `overrides`, or leads on from there to a key that the override sets
abbrev pub is_named_by : Override → Path → Bool
is_named_by shown [] = false
is_named_by shown (first ∷ []) = is_word first (codes "overrides")
is_named_by shown (first ∷ key ∷ keys) = is_word first (codes "overrides") && sets_key shown key

-- a wanted path names an override
abbrev pub is_named : List Path → Override → Bool
is_named wanted shown = list_any (is_named_by shown) wanted

-- keys are a wanted path, or lie above or below one, and an override has a value there
abbrev pub sets_keys : List Path → Override → Path → Bool
sets_keys wanted shown keys = is_related wanted keys && has_value keys shown

-- an override has a value at the keys of a setting that is a wanted key, or lies above or below one
abbrev pub sets_wanted : List Path → Override → Bool
sets_wanted wanted shown = list_any (λ setting. sets_keys wanted shown setting.keys) all_settings

-- an override sets something of a setting that is wanted, or a wanted path names it
abbrev pub is_override_wanted : List Path → Override → Bool
is_override_wanted wanted shown = is_named wanted shown || sets_wanted wanted shown

-- of overrides those that are wanted
abbrev pub overrides_wanted : List Path → List Override → List Override
overrides_wanted wanted = filter (is_override_wanted wanted)
