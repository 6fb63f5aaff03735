use Rattle.nextest_config_filters.proofs.Ranges.{one_fault}
use Rattle.nextest_config_filters.proofs.laws.law_filter_once.Goals as goal

pub returns : goal.returns
returns c = one_fault
