-- Arguments that hand in a tool's configuration file.
use Rattle.std.specs.Prelude.{◌≡◌, ◌≢◌, ℕ, List, [], ◌⊎◌, Option, Some, None, option_map, string_bytes}
use Rattle.nextest_config_values.specs.Read.Text.{FaultOrMemory}
use Rattle.nextest_config_values.specs.Helpers.Paths.{BeginsWithSlash}
use Rattle.nextest_config_values.specs.Identifier.ConfigIdentifier.{HasNoColon, IsCutAtColon}
use Rattle.nextest_config_values.specs.Identifier.Error.{NameFault, ToolNameFlaw, tool_name_fault}
use Rattle.nextest_config_values.specs.Identifier.ToolName.{IsToolName, IsToolNameFault}
use Rattle.nextest_config_values.specs.declared.tool_config.ToolConfigFile.{ToolConfigFile}
use Rattle.nextest_config_values.specs.declared.tool_config.ToolConfigFileParseError.{ToolConfigFileParseError}
use Rattle.nextest_config_values.specs.declared.tool_config.ToolConfigFileParseError.TheVariants as errors

-- a tool and the path of its file
pub record Argument : Type 0 where
  pub tool : List ℕ
  pub path : List ℕ

-- the tool's name and the path of a tool's file
abbrev pub argument_of : ToolConfigFile → Argument
argument_of file = record { tool = file.tool; path = string_bytes file.config_file }

-- the text is NAME:PATH, cut at its first colon, with the name of a tool and a path that begins
-- with a slash
pub record IsToolArgument (text : List ℕ) (argument : Argument) : Type 0 where
  pub name : List ℕ
  pub cut : IsCutAtColon text name argument.path
  pub tool : IsToolName name argument.tool
  pub absolute : BeginsWithSlash argument.path

-- ---- why a text is none

-- why a text is no tool argument
pub data ArgumentFault : Type 0 where
  invalid_format : List ℕ → ArgumentFault
  invalid_tool_name : List ℕ → NameFault ToolNameFlaw → ArgumentFault
  empty_config_file : List ℕ → ArgumentFault
  config_file_not_absolute : List ℕ → ArgumentFault

-- what a refusal says, unless memory was refused
abbrev pub argument_fault : ToolConfigFileParseError → Option ArgumentFault
argument_fault (errors.InvalidFormat input) = Some (invalid_format (string_bytes input))
argument_fault (errors.InvalidToolName input error) =
    option_map (invalid_tool_name (string_bytes input)) (tool_name_fault error)
argument_fault (errors.EmptyConfigFile input) = Some (empty_config_file (string_bytes input))
argument_fault (errors.ConfigFileNotAbsolute path) =
    Some (config_file_not_absolute (string_bytes path))
argument_fault errors.Memory = None

-- the path is empty, or doesn't begin with a slash
abbrev pub IsPathFault : List ℕ → List ℕ → ArgumentFault → Type 0
IsPathFault text path refusal =
    ((path ≡ []) × (refusal ≡ empty_config_file text))
    ⊎ ((path ≢ []) × ¬ (BeginsWithSlash path) × (refusal ≡ config_file_not_absolute path))

-- the name is no tool's; or it is one, and the path has a fault
abbrev pub IsPartsFault : List ℕ → List ℕ → List ℕ → ArgumentFault → Type 0
IsPartsFault text name path refusal =
    ((fault : NameFault ToolNameFlaw) × IsToolNameFault name fault
    × (refusal ≡ invalid_tool_name text fault))
    ⊎ ((tool : List ℕ) × IsToolName name tool × IsPathFault text path refusal)

-- there is no colon; or one of the parts around the first colon has a fault
abbrev pub IsArgumentFault : List ℕ → ArgumentFault → Type 0
IsArgumentFault text refusal =
    (HasNoColon text × (refusal ≡ invalid_format text))
    ⊎ ((name path : List ℕ) × IsCutAtColon text name path × IsPartsFault text name path refusal)

-- the refusal is a fault of which this holds, or memory was refused
abbrev pub RefusesArgument : (ArgumentFault → Type 0) → ToolConfigFileParseError → Type 0
RefusesArgument IsFault error = FaultOrMemory (argument_fault error) (error ≡ errors.Memory) IsFault

-- the refusal of a text whose tool name is refused
abbrev pub RefusesTool : List ℕ → Option (NameFault ToolNameFlaw) → ToolConfigFileParseError
    → Type 0
RefusesTool text told error =
    FaultOrMemory told (error ≡ errors.Memory)
    (λ fault. RefusesArgument (λ f. f ≡ invalid_tool_name text fault) error)
