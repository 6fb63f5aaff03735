use Rattle.nextest_config_elements.proofs.Limits.{count_not_faulty}
use Rattle.nextest_config_elements.proofs.max_fail.MaxFail.of_count.Goals as goal

pub returns-in-Err-clause-only : goal.returns-in-Err-clause-only
returns-in-Err-clause-only c = λ max_fail h. count_not_faulty c.args.count.now max_fail c.in-Err.reason h c.in-Err.ensures.refused
