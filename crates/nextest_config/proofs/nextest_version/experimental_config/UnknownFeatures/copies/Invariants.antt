use Rattle.std.proofs.Common.{◌≡◌, map, take}
use Rattle.nextest_config.specs.NextestVersion.{unknown_of}
use Rattle.nextest_config.proofs.nextest_version.experimental_config.UnknownFeatures.copies.Given as goal

abbrev pub invariant-loop-entry : goal.invariant-loop-entry
invariant-loop-entry l = map unknown_of l.copies.items ≡ map unknown_of (take l.entry-index l.entries)
