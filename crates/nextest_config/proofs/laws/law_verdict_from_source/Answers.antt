use Rattle.nextest_config.proofs.Verdicts.{from_source, satisfied_where_all}
use Rattle.nextest_config.proofs.laws.law_verdict_from_source.Goals as goal

pub returns : goal.returns
returns c = record { source = from_source; satisfied = λ asked current overridden. satisfied_where_all _ }
