use Rattle.nextest_config_command.proofs.profile.report_of.Goals as goal

pub returns : goal.returns
returns c = (c.in_ok-report.report, c.in_ok-report.ensures, c.in_ok-answer.ensures)
