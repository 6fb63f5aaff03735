use Rattle.nextest_config.specs.NextestVersion.VersionOnlyDeserializeLaws.{one_ask_or_error}
use Rattle.nextest_config.proofs.laws.law_source_once.Goals as goal

pub returns : goal.returns
returns c = one_ask_or_error
