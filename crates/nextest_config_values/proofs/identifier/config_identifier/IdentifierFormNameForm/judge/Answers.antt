use Rattle.std.proofs.Common.{Some, None}
use Rattle.nextest_config_values.proofs.Texts.{chars_after, mark_plain, not_after, strip_text}
use Rattle.nextest_config_values.specs.Identifier.{tool_mark}
use Rattle.nextest_config_values.proofs.identifier.config_identifier.IdentifierFormNameForm.judge.Goals as goal

pub returns-in-Some-clause-accepted : goal.returns-in-Some-clause-accepted
returns-in-Some-clause-accepted c =
    let stripped = strip_text tool_mark c.args.text.now (Some c.in-Some.components) c.in-Some.ensures.cases in
    rw (chars_after tool_mark c.args.text.now c.in-Some.components.now mark_plain stripped.0) c.judge_components.ensures.accepted

pub returns-in-Some-clause-refused : goal.returns-in-Some-clause-refused
returns-in-Some-clause-refused c =
    let stripped = strip_text tool_mark c.args.text.now (Some c.in-Some.components) c.in-Some.ensures.cases in
    rw (chars_after tool_mark c.args.text.now c.in-Some.components.now mark_plain stripped.0) c.judge_components.ensures.refused

pub returns-in-Err-clause-refused : goal.returns-in-Err-clause-refused
returns-in-Err-clause-refused c =
    (not_after tool_mark c.args.text.now mark_plain c.utf8.text (strip_text tool_mark c.args.text.now None c.in-None.ensures.cases), c.in-Err.ensures.refused)
