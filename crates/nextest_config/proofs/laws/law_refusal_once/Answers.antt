use Rattle.nextest_config.proofs.OneRefusal.{reads_not_refused, reads_or_refused, refusal_once}
use Rattle.nextest_config.proofs.laws.law_refusal_once.Goals as goal

pub returns : goal.returns
returns c = record { read_or_refused = reads_or_refused; never_both = reads_not_refused; one_refusal = refusal_once }
