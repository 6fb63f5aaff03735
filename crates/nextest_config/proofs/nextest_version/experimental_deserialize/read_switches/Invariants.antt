use Rattle.nextest_config.specs.NextestVersion.{features_left}
use Rattle.nextest_config.proofs.Naming.{SwitchedSoFar}
use Rattle.toml.specs.View.{table_view}
use Rattle.nextest_config.proofs.nextest_version.experimental_deserialize.read_switches.Given as goal

abbrev pub invariant-loop-feature : goal.invariant-loop-feature
invariant-loop-feature l = SwitchedSoFar (table_view l.table) l.yielded (features_left l.feature-iterator) l.known.keys
