use Rattle.std.proofs.Common.{◌∙◌, ap, is_some, sym}
use Rattle.std.proofs.lemmas.List.{drop_all}
use Rattle.nextest_config_lint.proofs.Keys.{at_this_key, past_key}
use Rattle.nextest_config_lint.proofs.unknown.is_known.Goals as goal

pub loop-key-preserved : goal.loop-key-preserved
loop-key-preserved c =
    c.loop-key.invariant ∙ past_key c.args.known.now c.loop-key.key-index _ c.args.name.now c.loop-key-test.true (sym c.if-eq.ensures)

pub returns-then-eq : goal.returns-then-eq
returns-then-eq c =
    at_this_key c.args.known.now c.loop-key.key-index _ c.args.name.now c.loop-key-test.true (sym c.if-eq.ensures) ∙ ap is_some (sym c.loop-key.invariant)

pub returns : goal.returns
returns c = ap is_some (sym (rw (drop_all c.loop-key.key-index c.args.known.now c.loop-key-test.false) at c.loop-key.invariant))
