-- Texts as they are printed.
use Rattle.std.specs.Prelude.{ℕ, List, string_bytes}
use Rattle.nextest_config_output.specs.declared.findings.format.Format.{Format}
use Rattle.nextest_config_output.specs.declared.findings.format.Format.TheVariants as formats
use Rattle.nextest_config_values.specs.Literal.Shown.{shown_lines}
use Rattle.nextest_config_report.specs.declared.show.ShowFormat.{ShowFormat}
use Rattle.nextest_config_report.specs.declared.show.ShowFormat.TheVariants as shows
use Rattle.nextest_config_command.specs.declared.printed.Printed.{Printed}
use Rattle.nextest_config_command.specs.declared.printed.Printed.TheVariants as prints

-- a text of lines for people; or JSON, which has rules of its own
pub data Text : Type 0 where
  for_people : List ℕ → Text
  as_json : List ℕ → Text

-- a text as it is printed: people see no control characters
abbrev pub printed : Text → List ℕ
printed (for_people text) = shown_lines text
printed (as_json text) = text

-- a text that is printed, without where it lies in memory
abbrev pub text_of : Printed → Text
text_of (prints.ForPeople text) = for_people (string_bytes text)
text_of (prints.Json text) = as_json (string_bytes text)

-- a text in a format
abbrev pub in_format : Format → List ℕ → Text
in_format formats.Human = for_people
in_format formats.Full = for_people
in_format formats.Github = for_people
in_format formats.Json = as_json

-- a text in a format of what is shown
abbrev pub in_show_format : ShowFormat → List ℕ → Text
in_show_format shows.Human = for_people
in_show_format shows.Json = as_json
