use Rattle.std.proofs.Common.{map}
use Rattle.nextest_config.specs.NextestVersion.{tool_given, AreGivenAs}
use Rattle.nextest_config.proofs.nextest_version.borrowed_source.BorrowedSource.of_files.Given as goal

abbrev pub invariant-loop-tool : goal.invariant-loop-tool
invariant-loop-tool l = AreGivenAs (map tool_given (map (λ tool. tool.now) l.yielded)) l.files.items
