use Rattle.nextest_config.proofs.Reorderings.{agree_reordered, reads_reordered}
use Rattle.nextest_config.proofs.laws.law_reorder.Goals as goal

pub returns : goal.returns
returns c = record { reads = reads_reordered; agree = agree_reordered }
