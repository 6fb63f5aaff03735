use Rattle.toml.specs.View.{array_view}
use Rattle.nextest_config.specs.NextestVersion.{features_of}
use Rattle.nextest_config.proofs.Naming.{NamedSoFar}
use Rattle.nextest_config.proofs.nextest_version.experimental_deserialize.ExperimentalDeserialize.read_array.Given as goal

abbrev pub invariant-loop-index : goal.invariant-loop-index
invariant-loop-index l = NamedSoFar (array_view l.array) l.index (features_of l.features)
