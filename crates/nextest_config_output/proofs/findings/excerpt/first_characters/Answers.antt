use Rattle.std.proofs.Common.{rules}
use Rattle.std.proofs.lemmas.Iterator.{items_from_collect, YieldsList-from_chars, YieldsList-from_take}
use Rattle.nextest_config_output.proofs.findings.excerpt.first_characters.Goals as goal

pub returns : goal.returns
returns c = items_from_collect _ c.collect.ensures.ran (YieldsList-from_take 201 (YieldsList-from_chars c.args.line.now c.utf8.line (search rules)) (search rules))
