use Rattle.nextest_config_check.proofs.Layouts.{sources_once, line_once, blocks_or_line}
use Rattle.nextest_config_check.proofs.laws.law_layout_once.Goals as goal

pub returns : goal.returns
returns c = record { sources = sources_once; line = line_once; never_both = blocks_or_line }
