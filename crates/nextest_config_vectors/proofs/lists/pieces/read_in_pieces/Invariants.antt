use Rattle.std.proofs.Common.{◌≤◌, length, map, take}
use Rattle.nextest_config.specs.NextestVersion.{source_under, configuration_of, StandsFor}
use Rattle.nextest_config_vectors.proofs.lists.pieces.read_in_pieces.Given as goal

-- the configuration stands for the sources up to here
abbrev pub invariant-loop-length : goal.invariant-loop-length
invariant-loop-length l =
    (l.from ≤ length l.sources) × StandsFor (map (source_under l.edition) (take l.from l.sources)) (configuration_of l.whole)
