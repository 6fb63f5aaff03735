use Rattle.nextest_config_filters.proofs.Filters.Walks.{closing_step}
use Rattle.nextest_config_filters.proofs.filter.walk.closed.Goals as goal

pub returns : goal.returns
returns c level now shows =
    closing_step level c.args.state now.open_ones c.args.rest shows.deep shows.of_level c.if-state-eq0.false
