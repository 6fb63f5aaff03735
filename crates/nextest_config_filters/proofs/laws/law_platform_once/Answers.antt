use Rattle.nextest_config_filters.proofs.Platforms.Laws.{one_fault}
use Rattle.nextest_config_filters.proofs.laws.law_platform_once.Goals as goal

pub returns : goal.returns
returns c = one_fault
