use Rattle.std.proofs.Common.{◌∙◌, ap, sym}
use Rattle.nextest_config_values.specs.Read.{read_fault_at}
use Rattle.nextest_config_values.proofs.laws.law_value_once.Goals as goal

pub returns-clause-once : goal.returns-clause-once
returns-clause-once g c = g.T.FromToml.reading.law

pub returns-clause-told_once : goal.returns-clause-told_once
returns-clause-told_once g c value at told other a b =
    a.2 ∙ ap (read_fault_at at) (g.T.FromToml.reading.law.one_fault value a.0 b.0 a.1 b.1) ∙ sym b.2
