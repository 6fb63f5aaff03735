-- Why the words of a command line ask for nothing.
use Rattle.std.specs.Prelude.{◌≡◌}
use Rattle.nextest_config_values.specs.declared.tool_config.ToolConfigFileParseError.{ToolConfigFileParseError}
use Rattle.nextest_config_values.specs.declared.tool_config.ToolConfigFileParseError.TheVariants as errors
use Rattle.nextest_config_cli.specs.declared.usage_error.UsageError.{UsageError}
use Rattle.nextest_config_cli.specs.declared.usage_error.UsageError.TheVariants.{Memory, Tool}

-- the refusal of a word that names no tool's file
abbrev pub IsOfTool : ToolConfigFileParseError → UsageError → Type 0
IsOfTool errors.Memory refusal = refusal ≡ Memory
IsOfTool error refusal = refusal ≡ Tool error
