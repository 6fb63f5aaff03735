use Rattle.nextest_config_lint.proofs.WrittenHints.{hint_taken}
use Rattle.nextest_config_lint.proofs.laws.law_hint_taken.Goals as goal

pub returns : goal.returns
returns c = hint_taken
