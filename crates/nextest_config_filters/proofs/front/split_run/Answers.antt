use Rattle.std.proofs.Common.{sym}
use Rattle.nextest_config_filters.specs.Front.{in_run, run}
use Rattle.std.specs.Prelude.{chars}
use Rattle.nextest_config_filters.proofs.Fronts.{run_whole}
use Rattle.nextest_config_filters.proofs.front.split_run.Goals as goal

pub split_before-requires : goal.split_before-requires
split_before-requires c = (
  run (in_run c.args.kind) (chars c.args.text.now),
  rw c.behind_run.ensures (sym (run_whole (in_run c.args.kind) (chars c.args.text.now))),
)

pub returns-clause-run : goal.returns-clause-run
returns-clause-run c = c.split_before.ensures.front (run (in_run c.args.kind) (chars c.args.text.now))
    (rw c.behind_run.ensures (sym (run_whole (in_run c.args.kind) (chars c.args.text.now))))
