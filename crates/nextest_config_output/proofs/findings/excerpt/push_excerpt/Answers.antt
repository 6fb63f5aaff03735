use Rattle.std.proofs.Common.{chars, rules}
use Rattle.nextest_config_output.proofs.FirstCharacters.{excerpt_of-take}
use Rattle.nextest_config_output.proofs.findings.excerpt.push_excerpt.Goals as goal

pub returns-then-is_plain : goal.returns-then-is_plain
returns-then-is_plain c =
    rw (c.as_slice.ensures.value, c.in_ok-characters.ensures, excerpt_of-take c.args.span (chars c.line_numbered-line.result.now), c.line_numbered-line.ensures) at c.push_marked.ensures

pub returns : goal.returns
returns c = search (rules, excerpt_of-take)
