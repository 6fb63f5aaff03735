use Rattle.nextest_config_lint.proofs.defined.add_kept.Goals as goal

pub returns-in-Some : goal.returns-in-Some
returns-in-Some c = rw c.in-Some.is c.add_kept_of.ensures
