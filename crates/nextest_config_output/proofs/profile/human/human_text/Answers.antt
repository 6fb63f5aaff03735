use Rattle.std.proofs.Common.{◌≡◌, ◌∙◌, ℕ, List, ◌++◌, append_assoc, codes, flat_map, map, refl}
use Rattle.toml_spans.specs.Step.{key_text}
use Rattle.nextest_config_profiles.specs.declared.report.profile_report.ProfileReport.{ProfileReport}
use Rattle.nextest_config_output.specs.Profile.Columns.{line_text, source_column}
use Rattle.nextest_config_output.specs.Profile.Human.{human_text, others_text}
use Rattle.nextest_config_output.specs.Profile.Chain.{chain_text, name_of}
use Rattle.nextest_config_output.specs.Profile.SourcedLine.{Line, line_of, other_line}
use Rattle.nextest_config_output.specs.Profile.SettingLines.{setting_lines}
use Rattle.nextest_config_output.specs.Profile.Overrides.{overrides_text}
use Rattle.nextest_config_output.proofs.profile.human.human_text.Goals as goal

in_row : (a b c d e x y z : List ℕ) → (((a ++ (b ++ (c ++ (d ++ e)))) ++ x) ++ y) ++ z ≡ a ++ (b ++ (c ++ (d ++ (e ++ (x ++ (y ++ z))))))
in_row a b c d e x y z = simp append_assoc

-- a first line, and what was pushed behind it
whole : (report : ProfileReport) (name : List ℕ) (column : ℕ) (settings others : List Line) (lead one two three : List ℕ)
    → name ≡ name_of report.chain.items → settings ≡ setting_lines name report.settings.items → others ≡ map (other_line name) report.others.items
    → column ≡ source_column settings others
    → lead ≡ codes "profile " ++ (key_text name ++ (codes ": " ++ (chain_text report.chain.items ++ codes "\n")))
    → one ≡ lead ++ flat_map (line_text column) settings → two ≡ one ++ others_text column others → three ≡ two ++ overrides_text name report.overrides.items
    → three ≡ human_text report
whole report name column settings others lead one two three named of_settings of_others at first then_settings then_others then_overrides =
    let row = in_row (codes "profile ") (key_text name) (codes ": ") (chain_text report.chain.items) (codes "\n") (flat_map (line_text column) settings) (others_text column others) (overrides_text name report.overrides.items) in
    rw (then_overrides, then_others, then_settings, first) (row ∙ rw (at, of_settings, of_others, named) refl)

pub returns : goal.returns
returns c =
    whole c.args.report.now c.name_of-name.result.now c.source_column-column.result (map line_of c.in_ok-settings.settings.items) (map line_of c.in_ok-others.others.items)
    _ _ _ _ (rw c.as_slice-chain.ensures.value at c.name_of-name.ensures) (rw c.as_slice.ensures.value at c.in_ok-settings.ensures)
    (rw c.as_slice-2.ensures.value at c.in_ok-others.ensures) (rw (c.as_slice-3.ensures.value, c.as_slice-4.ensures.value) at c.source_column-column.ensures)
    (rw c.as_slice-chain.ensures.value at c.in_ok-text.ensures.ok) (rw c.as_slice-5.ensures.value at c.in_ok-push_lines.ensures)
    (rw c.as_slice-6.ensures.value at c.in_ok-push_others.ensures) (rw c.as_slice-7.ensures.value at c.in_ok-push_overrides.ensures)
