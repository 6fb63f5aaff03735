use Rattle.std.proofs.Common.{true, false, codes, chars}
use Rattle.nextest_config_values.proofs.Texts.{chars_after, not_after, starts_text_or_not, tool_plain}
use Rattle.nextest_config_values.proofs.identifier.tool_name.ToolFormNameForm.judge.Goals as goal

pub returns-then-starts_with-clause-refused : goal.returns-then-starts_with-clause-refused
returns-then-starts_with-clause-refused c =
    let found = starts_text_or_not (codes "@tool") c.args.text.now true c.if-starts_with.ensures.cases in
    (chars found.0, chars_after (codes "@tool") c.args.text.now found.0 tool_plain found.1)

pub returns-in-Err-InvalidXid-clause-refused : goal.returns-in-Err-InvalidXid-clause-refused
returns-in-Err-InvalidXid-clause-refused c =
    let none = starts_text_or_not (codes "@tool") c.args.text.now false c.if-starts_with.ensures.cases in
    let refused = rw c.in-Err-InvalidXid.field-0-is at c.in-Err-InvalidXid.ensures.refused in
    (refused.0, λ b. not_after (codes "@tool") c.args.text.now tool_plain c.utf8.text none b.0 b.1, refused.1)
