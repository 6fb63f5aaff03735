use Rattle.std.proofs.Common.{take}
use Rattle.std.specs.List.{AllByRecursion}
use Rattle.nextest_config.specs.NextestVersion.{IsPlain}
use Rattle.nextest_config.proofs.nextest_version.version_text.first_mark.Given as goal

abbrev pub invariant-loop-byte : goal.invariant-loop-byte
invariant-loop-byte l = AllByRecursion IsPlain (take l.byte-index l.text)
