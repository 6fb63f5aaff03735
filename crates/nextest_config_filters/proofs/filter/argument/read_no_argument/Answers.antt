use Rattle.std.proofs.Common.{sym}
use Rattle.std.specs.Str.{chars}
use Rattle.nextest_config_filters.specs.Front.{behind_run, in_run, run}
use Rattle.nextest_config_filters.specs.declared.front.Run.TheVariants.{Unclosed}
use Rattle.nextest_config_filters.proofs.Fronts.{front_without_spaces, run_whole}
use Rattle.nextest_config_filters.proofs.filter.argument.read_no_argument.Goals as goal

pub read_nothing-requires : goal.read_nothing-requires
read_nothing-requires c =
    let cs = chars c.behind_spaces-text.result.now in
    rw (c.without_spaces_behind.ensures, c.split_run.ensures.run)
    (front_without_spaces cs (run (in_run Unclosed) cs) (behind_run (in_run Unclosed) cs) (sym (run_whole (in_run Unclosed) cs)))
