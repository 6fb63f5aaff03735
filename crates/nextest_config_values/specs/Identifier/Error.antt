-- Why a text was refused as an identifier or as a tool name, without where the text lies in memory,
-- and how it prints.
use Rattle.std.specs.Prelude.{ℕ, List, [], ◌++◌, Option, Some, None, codes, string_bytes}
use Rattle.toml_spans.specs.QuotedText.{quoted_text}
use Rattle.nextest_config_values.specs.declared.helpers.identifiers.InvalidIdentifierKind.TheVariants.{Empty, InvalidXid}
pub use Rattle.nextest_config_values.specs.declared.identifier.error.IdentifierFlaw.{IdentifierFlaw}
pub use Rattle.nextest_config_values.specs.declared.identifier.error.IdentifierFlaw.TheVariants.{Whole, OneComponent, Component}
pub use Rattle.nextest_config_values.specs.declared.identifier.error.ToolNameFlaw.{ToolNameFlaw}
use Rattle.nextest_config_values.specs.declared.identifier.error.ToolNameFlaw.TheVariants as of_names
use Rattle.nextest_config_values.specs.declared.identifier.error.InvalidIdentifier.{InvalidIdentifier}
use Rattle.nextest_config_values.specs.declared.identifier.error.InvalidIdentifier.TheVariants as identifiers
use Rattle.nextest_config_values.specs.declared.identifier.error.InvalidToolName.{InvalidToolName}
use Rattle.nextest_config_values.specs.declared.identifier.error.InvalidToolName.TheVariants as names

-- what is wrong with a text, and the text
pub data NameFault (Flaw : Type 0) : Type 0 where
  flawed : Flaw → List ℕ → NameFault Flaw

-- the flaw that a refused identifier names, and the text that it carries, unless memory was refused
abbrev pub identifier_fault : InvalidIdentifier → Option (NameFault IdentifierFlaw)
identifier_fault identifiers.Empty = Some (flawed (Whole Empty) [])
identifier_fault (identifiers.InvalidXid text) =
    Some (flawed (Whole InvalidXid) (string_bytes text))
identifier_fault (identifiers.ToolIdentifierInvalidFormat text) =
    Some (flawed OneComponent (string_bytes text))
identifier_fault (identifiers.ToolComponentEmpty text) =
    Some (flawed (Component Empty) (string_bytes text))
identifier_fault (identifiers.ToolIdentifierInvalidXid text) =
    Some (flawed (Component InvalidXid) (string_bytes text))
identifier_fault identifiers.Memory = None

-- the flaw that a refused tool name names, and the text that it carries, unless memory was refused
abbrev pub tool_name_fault : InvalidToolName → Option (NameFault ToolNameFlaw)
tool_name_fault names.Empty = Some (flawed of_names.Empty [])
tool_name_fault (names.StartsWithToolPrefix text) =
    Some (flawed of_names.StartsWithToolPrefix (string_bytes text))
tool_name_fault (names.InvalidXid text) = Some (flawed of_names.InvalidXid (string_bytes text))
tool_name_fault names.Memory = None

-- ---- how they print

-- how a refused identifier prints
abbrev pub identifier_fault_text : NameFault IdentifierFlaw → List ℕ
identifier_fault_text (flawed (Whole Empty) text) = codes "identifier is empty"
identifier_fault_text (flawed (Whole InvalidXid) text) = codes "invalid identifier "
    ++ quoted_text text
identifier_fault_text (flawed OneComponent text) =
    codes "tool identifier isn't @tool:name:identifier: " ++ quoted_text text
identifier_fault_text (flawed (Component Empty) text) =
    codes "tool identifier has an empty component: " ++ quoted_text text
identifier_fault_text (flawed (Component InvalidXid) text) = codes "invalid tool identifier "
    ++ quoted_text text

-- how a refused tool name prints
abbrev pub tool_name_fault_text : NameFault ToolNameFlaw → List ℕ
tool_name_fault_text (flawed of_names.Empty text) = codes "tool name is empty"
tool_name_fault_text (flawed of_names.StartsWithToolPrefix text) =
    codes "tool name begins with @tool: " ++ quoted_text text
tool_name_fault_text (flawed of_names.InvalidXid text) = codes "invalid tool name "
    ++ quoted_text text
