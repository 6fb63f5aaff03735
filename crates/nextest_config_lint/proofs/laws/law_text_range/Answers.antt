use Rattle.nextest_config_lint.proofs.TextRanges.{plain_reported}
use Rattle.nextest_config_lint.proofs.laws.law_text_range.Goals as goal

pub returns : goal.returns
returns c = plain_reported
