use Rattle.nextest_config_values.proofs.Faults.{refused_name}
use Rattle.nextest_config_values.proofs.identifier.name.NameFromToml.read_value.Goals as goal

pub returns-in-Err-clause-refused : goal.returns-in-Err-clause-refused
returns-in-Err-clause-refused g c =
    rw c.in_ok-text.ensures.held (refused_name g.F.NameForm.grammar c.in_ok-text.text.now
    (g.F.NameForm.fault c.in-Err.refusal) _ c.into.result c.new-in-Err.result c.in-Err.ensures.refused (g.met.F.NameForm.is_told c.in-Err.refusal c.into.result c.into.ensures) c.new-in-Err.ensures)
