-- How sources print in a report.
use Rattle.std.specs.Prelude.{ℕ, List}
use Rattle.nextest_config_values.specs.Literal.Shown.{shown_text}
use Rattle.nextest_config.specs.NextestVersion.{SourcePlace, place_text}
use Rattle.nextest_config_report.specs.declared.source.SourceStyle.{SourceStyle}
use Rattle.nextest_config_report.specs.declared.source.SourceStyle.TheVariants.{AsWritten, InLine}

-- how a source prints in a report: as it is written, or in a line, with what is never shown escaped
abbrev pub source_text : SourceStyle → SourcePlace → List ℕ
source_text AsWritten place = place_text place
source_text InLine place = shown_text (place_text place)
