use Rattle.nextest_config_profiles.proofs.ChainOrWrong.{chain_or_wrong}
use Rattle.nextest_config_profiles.proofs.laws.law_chain_or_wrong.Goals as goal

pub returns : goal.returns
returns c = chain_or_wrong
