-- The text is cut one byte after the line feed that the search found, or nowhere.
use Rattle.nextest_config_check.proofs.Lines.{cut_at, cut_nowhere}
use Rattle.nextest_config_check.proofs.layout.split_block.Goals as goal

pub returns-in-Some : goal.returns-in-Some
returns-in-Some c =
    rw (c.split_at.ensures.front, c.split_at.ensures.back) (cut_at c.args.text.now c.in-Some.at c.in-Some.ensures.cases.0 c.in-Some.ensures.cases.1)

pub returns-in-None : goal.returns-in-None
returns-in-None c = cut_nowhere c.args.text.now c.in-None.ensures.cases
