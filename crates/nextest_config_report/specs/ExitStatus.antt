-- How programs end.
use Rattle.std.specs.Prelude.{ℕ}
use Rattle.nextest_config_report.specs.declared.exit_status.ExitStatus.{ExitStatus}
use Rattle.nextest_config_report.specs.declared.exit_status.ExitStatus.TheVariants.{Failure, NoOutcome, Refused, Success}

-- the number that the system is told of how a program ended
abbrev pub exit_code : ExitStatus → ℕ
exit_code Success = 0
exit_code Failure = 1
exit_code Refused = 2
exit_code NoOutcome = 3
