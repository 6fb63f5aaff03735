use Rattle.std.proofs.Common.{◌≢◌, ◌++◌, ℕ, List, false, inl, rules}
use Rattle.nextest_config_values.proofs.Texts.{starts_text_or_not}
use Rattle.nextest_config_lint.specs.References.Definitions.{tool_mark_of}
use Rattle.nextest_config_lint.proofs.references.definitions.of_tools_name.Goals as goal

pub returns-clause-reported : goal.returns-clause-reported
returns-clause-reported c =
    let none = starts_text_or_not _ c.args.name.now false c.if-starts_with.ensures.cases in
    let other : (rest : List ℕ) → c.args.name.now ≢ tool_mark_of c.args.tool.now ++ rest = rw (c.as_str.ensures.value, c.in_ok-mark.ensures) at none in
    inl ((λ begins. other begins.0 begins.1), search rules)
