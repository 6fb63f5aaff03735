-- The grammar of tool names, by the characters of a normal form: that of UAX 31, with `-`.
use Rattle.std.specs.Prelude.{◌≡◌, ◌≢◌, ℕ, List, [], ◌++◌, codes}
use Rattle.nextest_config_values.specs.Helpers.Identifiers.{IsPlainIdentifier}
use Rattle.nextest_config_values.specs.Identifier.Error.{NameFault, ToolNameFlaw}
use Rattle.nextest_config_values.specs.declared.identifier.error.ToolNameFlaw.TheVariants.{Empty, StartsWithToolPrefix, InvalidXid}
use Rattle.nextest_config_values.specs.Identifier.Normal.{IsNormalFault, IsNormalText}

-- the characters begin with `@tool`, as no tool name may
abbrev pub BeginsWithTool : List ℕ → Type 0
BeginsWithTool cs = (rest : List ℕ) × (cs ≡ codes "@tool" ++ rest)

-- the flaw of characters that are no tool name, the first that applies: they are empty, are
-- reserved for tool identifiers, or aren't of the form
abbrev pub IsToolNameFlaw : List ℕ → ToolNameFlaw → Type 0
IsToolNameFlaw cs Empty = cs ≡ []
IsToolNameFlaw cs StartsWithToolPrefix = BeginsWithTool cs
IsToolNameFlaw cs InvalidXid = (cs ≢ []) × ¬ (BeginsWithTool cs) × ¬ (IsPlainIdentifier cs)

-- the text is a tool name, and this is its normal form (UAX 15)
abbrev pub IsToolName : List ℕ → List ℕ → Type 0
IsToolName = IsNormalText IsPlainIdentifier

-- the fault of a text that is no tool name
abbrev pub IsToolNameFault : List ℕ → NameFault ToolNameFlaw → Type 0
IsToolNameFault = IsNormalFault IsToolNameFlaw
