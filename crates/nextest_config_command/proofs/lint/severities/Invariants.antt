use Rattle.std.proofs.Common.{◌≡◌, map, take}
use Rattle.nextest_config_command.specs.FileFindings.{found_of}
use Rattle.nextest_config_command.specs.Lint.{severities_of}
use Rattle.nextest_config_command.proofs.lint.severities.Given as goal

-- the severities in the files so far
abbrev pub invariant-loop-file : goal.invariant-loop-file
invariant-loop-file l = l.severities.items ≡ severities_of (map found_of (take l.file-index l.fn.found))
