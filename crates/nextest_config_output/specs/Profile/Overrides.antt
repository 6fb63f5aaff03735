-- Lines of overrides.
use Rattle.std.specs.Prelude.{ℕ, nat_eq, ◌==◌, List, [], ◌∷◌, ◌++◌, codes, flat_map, Option, Some, None, string_bytes, vec_len, if◌then◌else◌}
use Rattle.std.specs.Cmp.Lexicographic.{pointwise}
use Rattle.std.specs.List.{join_by}
use Rattle.nextest_config_values.specs.Literal.Key.{key_text}
use Rattle.nextest_config_profiles.specs.declared.report.parts.Literal.{Literal}
use Rattle.nextest_config_profiles.specs.declared.report.parts.Override.{Override}
use Rattle.nextest_config_profiles.specs.declared.report.parts.OverrideSetting.{OverrideSetting}
use Rattle.nextest_config_profiles.specs.declared.report.parts.Source.{Source}
use Rattle.nextest_config_output.specs.Profile.SourcedLine.{setting_text}
use Rattle.nextest_config_output.specs.Profile.Source.{file_text, in_brackets}

-- PATH:LINE: [profile.Q] and a blank; the profile is left out where it is the one of this name
abbrev pub lead_text : List ℕ → Source → List ℕ
lead_text name source = file_text source.file ++ (if pointwise nat_eq name source.profile.now
    then codes ": "
    else codes ": " ++ (in_brackets source.profile.now ++ codes " "))

-- filter = X
abbrev pub filter_text : Literal → List ℕ
filter_text filter = setting_text (codes "filter") (string_bytes filter.text)

-- platform = Y
abbrev pub platform_text : Literal → List ℕ
platform_text platform = setting_text (codes "platform") (string_bytes platform.text)

-- filter = X, platform = Y, or the one that there is; of neither, that it is for every test
abbrev pub conditions_text : Option Literal → Option Literal → List ℕ
conditions_text (Some filter) (Some platform) =
    filter_text filter ++ (codes ", " ++ platform_text platform)
conditions_text (Some filter) None = filter_text filter
conditions_text None (Some platform) = platform_text platform
conditions_text None None = codes "every test"

-- K = V
abbrev pub pair_text : OverrideSetting → List ℕ
pair_text setting = setting_text (key_text setting.key.now) (string_bytes setting.literal.text)

-- K = V, K = V, the keys that an override sets
abbrev pub pairs_text : List OverrideSetting → List ℕ
pairs_text settings = join_by pair_text (codes ", ") settings

-- what stands before what an override sets, where that is anything
abbrev pub divider : Override → List ℕ
divider one = if vec_len one.settings == 0 then [] else codes "; "

-- PATH:LINE: [profile.Q] filter = X, platform = Y; K = V, K = V
abbrev pub override_line : List ℕ → Override → List ℕ
override_line name one =
    lead_text name one.source ++ (conditions_text one.filter one.platform ++ (divider one
    ++ (pairs_text one.settings.items ++ codes "\n")))

-- the lines of all overrides, below an empty line and what they are; nothing where there is none
abbrev pub overrides_text : List ℕ → List Override → List ℕ
overrides_text name [] = []
overrides_text name (first ∷ rest) =
    codes "\noverrides, the first that applies and sets a key wins:\n"
    ++ flat_map (override_line name) (first ∷ rest)
