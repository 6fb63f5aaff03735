use Rattle.std.proofs.Common.{◌≡◌}
use Rattle.std.specs.List.{filter}
use Rattle.nextest_config_command.specs.FileFindings.{judging_of, tells}
use Rattle.nextest_config_command.proofs.file_findings.LintRules.reported.Given as goal

-- those of the findings so far that are reported
abbrev pub invariant-loop-located : goal.invariant-loop-located
invariant-loop-located l = l.reported.items ≡ filter (tells (judging_of l.fn.self)) l.yielded
