use Rattle.std.proofs.lemmas.Result.{err_from_is_err_and}
use Rattle.nextest_config_cli.proofs.NamingWords.{one_more, tool_refused}
use Rattle.nextest_config_cli.specs.Arguments.{Asks, IsTool}
use Rattle.nextest_config_cli.proofs.arguments.tools.Goals as goal

pub loop-word-preserved : goal.loop-word-preserved
loop-word-preserved c =
    one_more IsTool c.args.arguments.now.tools.now c.loop-word.word-index _ _ _ _ c.loop-word-test.true c.loop-word.invariant c.in_ok-tool.ensures.accepted c.in-Ok.ensures.items

pub returns-in_err-tool-clause-refused : goal.returns-in_err-tool-clause-refused
returns-in_err-tool-clause-refused c =
    let p = err_from_is_err_and c.from_residual.result c.from_residual.ensures.1 in
    rw p.1 (tool_refused (Asks c.args.arguments.now) c.args.arguments.now c.loop-word.word-index _ c.in_err-tool.field-0.0 p.0 c.loop-word-test.true c.in_err-tool.ensures.refused p.2)
