-- A profile in a format.
use Rattle.std.specs.Prelude.{◌≡◌, ℕ, List}
use Rattle.nextest_config_profiles.specs.declared.report.profile_report.ProfileReport.{ProfileReport}
use Rattle.nextest_config_output.specs.Profile.Human.{human_text}
use Rattle.nextest_config_output.specs.Profile.AsJson.{IsJsonLine, report_data}
use Rattle.nextest_config_report.specs.declared.show.ShowFormat.{ShowFormat}
use Rattle.nextest_config_report.specs.declared.show.ShowFormat.TheVariants.{Human, Json}

-- the text tells a profile: to people by the lines, to programs by the object on a line of its own
abbrev pub IsProfileText : ShowFormat → ProfileReport → List ℕ → Type 0
IsProfileText Human report text = text ≡ human_text report
IsProfileText Json report text = IsJsonLine (report_data report) text
