use Rattle.std.proofs.Common.{◌∙◌, Some, sym}
use Rattle.nextest_config_values.proofs.Components.{marked_components}
use Rattle.nextest_config_values.proofs.Texts.{strip_text}
use Rattle.nextest_config_values.specs.Identifier.{tool_mark}
use Rattle.nextest_config_values.proofs.identifier.config_identifier.ConfigIdentifier.tool_components.Goals as goal

pub returns-in-Some : goal.returns-in-Some
returns-in-Some c =
    let stripped = strip_text tool_mark c.as_str.result.now (Some c.in-Some.components) c.in-Some.ensures.cases in
    let whole = sym c.as_str.ensures.value ∙ stripped.0 in
    marked_components _ c.args.self.now c.in-Some.components.now c.split_once.result whole (stripped.1 c.as_str.utf8) c.as_str.ensures.kept.form c.split_once.ensures.cases
