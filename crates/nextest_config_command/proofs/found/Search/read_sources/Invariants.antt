use Rattle.std.proofs.Common.{map, take}
use Rattle.std.specs.List.{AllZip}
use Rattle.nextest_config.specs.NextestVersion.{place_of}
use Rattle.nextest_config_command.specs.Files.{file_of, IsThere}
use Rattle.nextest_config_command.proofs.found.Search.read_sources.Given as goal

-- the files so far are read
abbrev pub invariant-loop-source : goal.invariant-loop-source
invariant-loop-source g l = AllZip (IsThere (g.F.Files.holds l.fn.self.files.now)) (map place_of (take l.source-index l.fn.sources)) (map file_of l.read.items)
