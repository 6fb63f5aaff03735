use Rattle.std.specs.Str.{chars}
use Rattle.nextest_config_filters.proofs.Fronts.{without_spaces_front}
use Rattle.nextest_config_filters.proofs.platform.outcome.outside.Goals as goal

pub split_front-requires : goal.split_front-requires
split_front-requires c = rw c.without_spaces_behind-name.ensures (without_spaces_front (chars c.args.text.now))
