use Rattle.nextest_config_filters.proofs.Filters.DocumentedFilters.{nothing_reported}
use Rattle.nextest_config_filters.proofs.laws.law_documented_filter.Goals as goal

pub returns : goal.returns
returns c = nothing_reported
