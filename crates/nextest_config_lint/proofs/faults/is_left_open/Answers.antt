use Rattle.nextest_config_lint.proofs.faults.is_left_open.Goals as goal

pub returns-in-Value : goal.returns-in-Value
returns-in-Value c = rw c.in-Value.is c.is_unjudged.ensures
