use Rattle.nextest_config.proofs.Cuts.{reads_by_parts, refused_by_parts, stands_by_parts}
use Rattle.nextest_config.proofs.laws.law_cut.Goals as goal

pub returns : goal.returns
returns c = record { reads = reads_by_parts; refused = refused_by_parts; stands = stands_by_parts }
