use Rattle.nextest_config_command.proofs.profile.wanted_report.Goals as goal

pub returns : goal.returns
returns c = (c.in_ok-report.report, c.in_ok-report.ensures, rw c.as_slice.ensures.value at c.narrow.ensures)
