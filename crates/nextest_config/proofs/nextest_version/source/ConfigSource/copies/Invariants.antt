use Rattle.std.proofs.Common.{◌≡◌, map, take}
use Rattle.nextest_config.specs.NextestVersion.{place_of}
use Rattle.nextest_config.proofs.nextest_version.source.ConfigSource.copies.Given as goal

abbrev pub invariant-loop-source : goal.invariant-loop-source
invariant-loop-source l = map place_of l.copies.items ≡ map place_of (take l.source-index l.sources)
