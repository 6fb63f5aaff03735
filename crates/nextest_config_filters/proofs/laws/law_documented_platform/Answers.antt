use Rattle.nextest_config_filters.proofs.Platforms.DocumentedPlatforms.{none_reported}
use Rattle.nextest_config_filters.proofs.laws.law_documented_platform.Goals as goal

pub returns : goal.returns
returns c = none_reported
