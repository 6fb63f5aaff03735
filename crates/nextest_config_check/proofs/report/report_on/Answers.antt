use Rattle.nextest_config_check.specs.Report.{faulty_line, not_text}
use Rattle.nextest_config_check.proofs.report.report_on.Goals as goal

pub returns-in_default : goal.returns-in_default
returns-in_default c = rw (c.refused.ensures, c.in_ok-from_str.ensures.ok) (not_text c.in_default.ensures.cases.0)

pub returns-in_ok-format-in-Err-Line : goal.returns-in_ok-format-in-Err-Line
returns-in_ok-format-in-Err-Line c =
    let faulty = rw (c.in-Err-Line.field-0-is, c.in-Ok.ensures.cases.0) at c.in-Err-Line.ensures.faulty in
    rw (c.refused-in-Err-Line.ensures, c.in_ok-format-in-Err-Line.ensures.ok, c.in-Err-Line.number-is) (faulty_line c.in-Err-Line.number c.in-Ok.ensures.cases.1 faulty)
