use Rattle.std.proofs.Common.{◌≡◌, ◌++◌, map, take}
use Rattle.nextest_config_command.specs.Lint.{severity_of}
use Rattle.nextest_config_command.proofs.lint.push_severities.Given as goal

-- the severities of the findings so far are pushed
abbrev pub invariant-loop-one : goal.invariant-loop-one
invariant-loop-one l = l.severities.items ≡ l.fn.severities.items ++ map severity_of (take l.one-index l.fn.located)
