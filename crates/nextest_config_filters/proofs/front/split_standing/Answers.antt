use Rattle.std.proofs.Common.{sym}
use Rattle.nextest_config_filters.specs.Front.{standing}
use Rattle.std.specs.Prelude.{chars}
use Rattle.nextest_config_filters.proofs.Fronts.{standing_whole}
use Rattle.nextest_config_filters.proofs.front.split_standing.Goals as goal

pub split_before-requires : goal.split_before-requires
split_before-requires c = (
  standing (chars c.args.text.now),
  rw c.behind_standing.ensures (sym (standing_whole (chars c.args.text.now))),
)

pub returns-clause-standing : goal.returns-clause-standing
returns-clause-standing c = c.split_before.ensures.front (standing (chars c.args.text.now))
    (rw c.behind_standing.ensures (sym (standing_whole (chars c.args.text.now))))
