use Rattle.toml.specs.View.{view}
use Rattle.nextest_config_values.proofs.Faults.{refused_below}
use Rattle.nextest_config_values.specs.Read.{key}
use Rattle.nextest_config_values.proofs.read.field.read_at_key.Goals as goal

pub returns-in-Err-clause-refused : goal.returns-in-Err-clause-refused
returns-in-Err-clause-refused g c members =
    refused_below (key c.args.key.now) g.T.FromToml.reading (view c.args.value.now) members c.in-Err.fault c.below_key.result
    c.in-Err.ensures.refused c.below_key.ensures.memory c.below_key.ensures.fault
