use Rattle.std.proofs.Common.{rules}
use Rattle.nextest_config_values.specs.ToolConfig.{argument_fault}
use Rattle.nextest_config_check.proofs.SourceLines.{refused_names_none}
use Rattle.nextest_config_check.proofs.layout.tool_source.Goals as goal

pub returns : goal.returns
returns c =
    refused_names_none c.args.argument.now c.in-Err.field-0 (argument_fault c.in-Err.field-0) c.in-Err.ensures.refused (search rules)
