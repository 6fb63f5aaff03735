use Rattle.std.specs.List.{AllZip}
use Rattle.nextest_config_lint.specs.File.{IsLocated}
use Rattle.nextest_config_lint.proofs.file.locate_all_by.Given as goal

-- the findings so far are at their ranges
abbrev pub invariant-loop-finding : goal.invariant-loop-finding
invariant-loop-finding l = AllZip (IsLocated l.file.text.now) l.yielded l.located.items
