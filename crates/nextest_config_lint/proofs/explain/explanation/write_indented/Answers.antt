use Rattle.std.proofs.Common.{rules}
use Rattle.std.proofs.lemmas.Iterator.Consumers.{YieldsList-end}
use Rattle.std.proofs.lemmas.Iterator.Splits.{YieldsList-from_lines}
use Rattle.nextest_config_lint.specs.Explain.Explanation.{indented_text}
use Rattle.nextest_config_lint.proofs.explain.explanation.write_indented.Goals as goal

pub returns : goal.returns
unfolding indented_text
returns g c p ok =
    let all = YieldsList-end (YieldsList-from_lines c.args.text.now (search rules)) c.loop-line.yielded _ c.loop-line.yielded_by _ _ c.in-None.is c.next.ensures.steps in
    rw (← all.0) (c.loop-line.invariant p)
