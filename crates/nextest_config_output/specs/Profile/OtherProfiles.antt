-- Lines of what is wrong with settings of other profiles than the one that gives the setting.
use Rattle.std.specs.Prelude.{ℕ, List, ◌++◌, codes, flat_map, string_bytes}
use Rattle.nextest_config_output.specs.Findings.Escapes.{escaped_text}
use Rattle.nextest_config_output.specs.declared.findings.escapes.Escapes.TheVariants.{InLine}
use Rattle.toml_spans.specs.Step.{key_text}
use Rattle.nextest_config_profiles.specs.declared.report.profile_report.ProfileReport.{ProfileReport}
use Rattle.nextest_config_profiles.specs.declared.report.parts.OtherProfileFault.{OtherProfileFault}
use Rattle.nextest_config_output.specs.Profile.KeyPath.{key_path}
use Rattle.nextest_config_output.specs.Profile.Source.{files_text}

-- PATH:LINE, PATH:LINE: profile.Q.K: MESSAGE, escaped as in a line
abbrev pub fault_line : OtherProfileFault → List ℕ
fault_line fault =
    files_text fault.sources.items ++ (codes ": profile." ++ (key_text fault.profile.now
    ++ (codes "." ++ (key_path fault.keys.items ++ (codes ": "
    ++ (escaped_text InLine (string_bytes fault.message) ++ codes "\n"))))))

-- a line for each setting that is refused in a profile other than the one that gives the setting,
-- in the chain or outside of it
abbrev pub other_profiles_text : ProfileReport → List ℕ
other_profiles_text report = flat_map fault_line report.other_profiles.items
