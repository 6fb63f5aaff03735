-- A profile as people read it.
use Rattle.std.specs.Prelude.{ℕ, List, [], ◌∷◌, ◌++◌, codes, flat_map, map}
use Rattle.toml_spans.specs.Step.{key_text}
use Rattle.nextest_config_profiles.specs.declared.report.profile_report.ProfileReport.{ProfileReport}
use Rattle.nextest_config_output.specs.Profile.Columns.{line_text, source_column}
use Rattle.nextest_config_output.specs.Profile.Chain.{chain_text, name_of}
use Rattle.nextest_config_output.specs.Profile.SourcedLine.{Line, other_line}
use Rattle.nextest_config_output.specs.Profile.SettingLines.{setting_lines}
use Rattle.nextest_config_output.specs.Profile.Overrides.{overrides_text}

-- the lines of keys that no setting reads, below an empty one; nothing where there is none
abbrev pub others_text : ℕ → List Line → List ℕ
others_text column [] = []
others_text column (first ∷ rest) = codes "\n" ++ flat_map (line_text column) (first ∷ rest)

-- profile NAME: A (PATH:LINE), B, .. and then the lines of settings and of other keys, with their
-- sources in one column, and those of overrides
abbrev pub human_text : ProfileReport → List ℕ
human_text report =
    let name = name_of report.chain.items in
    let settings = setting_lines name report.settings.items in
    let others = map (other_line name) report.others.items in
    let column = source_column settings others in
    codes "profile " ++ (key_text name ++ (codes ": " ++ (chain_text report.chain.items
    ++ (codes "\n" ++ (flat_map (line_text column) settings ++ (others_text column others
    ++ overrides_text name report.overrides.items))))))
