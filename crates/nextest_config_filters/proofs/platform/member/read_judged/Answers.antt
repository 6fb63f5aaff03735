use Rattle.std.specs.Str.{chars}
use Rattle.nextest_config_filters.specs.Front.{in_key}
use Rattle.nextest_config_filters.proofs.Fronts.{run_in}
use Rattle.nextest_config_filters.proofs.platform.member.read_judged.Goals as goal

pub fault_up_to-requires : goal.fault_up_to-requires
fault_up_to-requires c = rw c.split_run.ensures.rest (run_in in_key (chars c.args.text.now))
