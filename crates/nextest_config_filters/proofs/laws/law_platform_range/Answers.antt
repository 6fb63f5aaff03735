use Rattle.nextest_config_filters.proofs.Platforms.Laws.{range_in_text}
use Rattle.nextest_config_filters.proofs.laws.law_platform_range.Goals as goal

pub returns : goal.returns
returns c = range_in_text
