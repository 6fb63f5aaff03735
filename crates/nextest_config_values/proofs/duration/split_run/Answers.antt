use Rattle.nextest_config_values.proofs.Runs.{split_found}
use Rattle.nextest_config_values.proofs.duration.split_run.Goals as goal

pub returns-clause-run : goal.returns-clause-run
returns-clause-run g c kind finds = rw (c.split_at.ensures.front, c.split_at.ensures.back) (split_found _ kind finds c.args.text.now c.find.result c.utf8.text c.find.ensures.cases c.unwrap_or-end.result c.unwrap_or-end.ensures)
