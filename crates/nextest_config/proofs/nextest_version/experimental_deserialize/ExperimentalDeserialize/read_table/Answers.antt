use Rattle.std.proofs.Common.{rules}
use Rattle.nextest_config.specs.NextestVersion.{all_features}
use Rattle.nextest_config.proofs.Naming.{read_in_turn}
use Rattle.nextest_config.proofs.nextest_version.experimental_deserialize.ExperimentalDeserialize.read_table.Goals as goal

pub returns-in-Ok-clause-meant : goal.returns-in-Ok-clause-meant
returns-in-Ok-clause-meant c = search (rules, read_in_turn all_features)
