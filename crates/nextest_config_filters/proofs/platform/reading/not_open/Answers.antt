use Rattle.std.specs.Str.{chars}
use Rattle.nextest_config_filters.proofs.Fronts.{without_first_rest}
use Rattle.nextest_config_filters.proofs.platform.reading.not_open.Goals as goal

pub fault_up_to-requires : goal.fault_up_to-requires
fault_up_to-requires c = rw c.without_first.ensures (without_first_rest (chars c.args.text.now))
