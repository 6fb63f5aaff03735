use Rattle.std.proofs.lemmas.Result.{err_from_is_err_and}
use Rattle.nextest_config_cli.proofs.NamingWords.{key_refused, one_more}
use Rattle.nextest_config_cli.specs.Arguments.{AsksProfile, IsKey}
use Rattle.nextest_config_cli.proofs.arguments.wanted_keys.Goals as goal

pub loop-word-preserved : goal.loop-word-preserved
loop-word-preserved c =
    one_more IsKey c.args.arguments.now.keys.now c.loop-word.word-index _ _ _ _ c.loop-word-test.true c.loop-word.invariant c.in_ok-key.ensures c.in-Ok.ensures.items

pub returns-in_err-key-clause-refused : goal.returns-in_err-key-clause-refused
returns-in_err-key-clause-refused c =
    let p = err_from_is_err_and c.from_residual.result c.from_residual.ensures.1 in
    rw (p.1, p.2) (key_refused (AsksProfile c.args.arguments.now) c.args.arguments.now c.loop-word.word-index _ _ c.loop-word-test.true c.in_err-key.ensures)
