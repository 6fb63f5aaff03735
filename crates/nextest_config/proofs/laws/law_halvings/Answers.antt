use Rattle.nextest_config.proofs.Halvings.{halvings_alone, halvings_digits, halvings_first, halvings_second}
use Rattle.nextest_config.proofs.laws.law_halvings.Goals as goal

pub returns : goal.returns
returns c = record { alone = halvings_alone; first = halvings_first; second = halvings_second; digits = halvings_digits }
