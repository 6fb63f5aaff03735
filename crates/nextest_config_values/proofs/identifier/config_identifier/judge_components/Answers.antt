use Rattle.std.proofs.Common.{◌++◌, Some, None, refl, ap, chars, inr}
use Rattle.nextest_config_values.proofs.Texts.{no_colon_chars, split_colon}
use Rattle.nextest_config_values.specs.Identifier.{tool_mark}
use Rattle.nextest_config_values.proofs.identifier.config_identifier.judge_components.Goals as goal

pub returns-in_default-clause-refused : goal.returns-in_default-clause-refused
returns-in_default-clause-refused c =
    (chars c.args.components.now, refl, no_colon_chars c.args.components.now c.utf8.components (split_colon c.args.components.now None c.utf8.components c.in_default.ensures.cases))

pub returns-in-Ok-clause-accepted : goal.returns-in-Ok-clause-accepted
returns-in-Ok-clause-accepted c =
    let cut = split_colon c.args.components.now (Some (c.in-Some.tool, c.in-Some.name)) c.utf8.components c.in-Some.ensures.cases in
    let plain = c.in-Ok.ensures.accepted in
    inr (chars c.in-Some.tool.now, chars c.in-Some.name.now, record { marked = ap (λ cs. tool_mark ++ cs) cut.characters.cut; tool_is_plain = plain.0; name_is_plain = plain.1 })

pub returns-in-Err-clause-refused : goal.returns-in-Err-clause-refused
returns-in-Err-clause-refused c =
    let cut = split_colon c.args.components.now (Some (c.in-Some.tool, c.in-Some.name)) c.utf8.components c.in-Some.ensures.cases in
    (chars c.args.components.now, chars c.in-Some.tool.now, chars c.in-Some.name.now, refl, cut.characters, c.in-Err.ensures.refused)
