-- The grammar of identifiers, by the characters of a normal form; their parts are those of UAX 31.
use Rattle.std.specs.Prelude.{◌≡◌, ◌≢◌, ℕ, List, ◌∷◌, ◌++◌, codes, chars, ◌⊎◌}
use Rattle.std.specs.List.{AllByRecursion}
use Rattle.toml_spans.specs.Characters.{colon}
use Rattle.nextest_config_values.specs.Helpers.Identifiers.{IsPlainFlaw, IsPlainIdentifier}
use Rattle.nextest_config_values.specs.declared.helpers.identifiers.InvalidIdentifierKind.{InvalidIdentifierKind}
use Rattle.nextest_config_values.specs.Identifier.Error.{Component, IdentifierFlaw, NameFault, OneComponent, Whole}
use Rattle.nextest_config_values.specs.Identifier.Normal.{IsNormalFault, IsNormalText}

-- what a tool identifier begins with
abbrev pub tool_mark : List ℕ
tool_mark = codes "@tool:"

-- no character is a colon
abbrev pub HasNoColon : List ℕ → Type 0
HasNoColon = AllByRecursion (λ c. c ≢ colon)

-- the text is cut at its first colon
pub record IsCutAtColon (text before after : List ℕ) : Type 0 where
  pub cut : text ≡ before ++ (colon ∷ after)
  pub first : HasNoColon before

-- the characters don't begin with the mark of a tool identifier
abbrev pub IsUnmarked : List ℕ → Type 0
IsUnmarked cs = (rest : List ℕ) → cs ≢ tool_mark ++ rest

-- `@tool:`, an identifier, a colon and an identifier
pub record IsMarkedPair (cs tool name : List ℕ) : Type 0 where
  pub marked : cs ≡ tool_mark ++ (tool ++ (colon ∷ name))
  pub tool_is_plain : IsPlainIdentifier tool
  pub name_is_plain : IsPlainIdentifier name

-- an identifier without a tool, or one with its tool's name
abbrev pub IsIdentifierForm : List ℕ → Type 0
IsIdentifierForm cs = IsPlainIdentifier cs ⊎ ((tool name : List ℕ) × IsMarkedPair cs tool name)

-- the first of two components that is flawed
abbrev pub AreFlawed : List ℕ → List ℕ → InvalidIdentifierKind → Type 0
AreFlawed tool name kind = IsPlainFlaw tool kind ⊎ (IsPlainIdentifier tool × IsPlainFlaw name kind)

-- characters that are no identifier: unmarked, and flawed as a whole; marked, and with no colon
-- after the mark; or marked, and the first part that is flawed
abbrev pub IsIdentifierFlaw : List ℕ → IdentifierFlaw → Type 0
IsIdentifierFlaw cs (Whole kind) = IsUnmarked cs × IsPlainFlaw cs kind
IsIdentifierFlaw cs OneComponent = (rest : List ℕ) × (cs ≡ tool_mark ++ rest) × HasNoColon rest
IsIdentifierFlaw cs (Component kind) = (rest tool name : List ℕ) × (cs ≡ tool_mark ++ rest)
    × IsCutAtColon rest tool name × AreFlawed tool name kind

-- the text is an identifier, and this is its normal form (UAX 15)
abbrev pub IsIdentifier : List ℕ → List ℕ → Type 0
IsIdentifier = IsNormalText IsIdentifierForm

-- the fault of a text that is no identifier
abbrev pub IsIdentifierFault : List ℕ → NameFault IdentifierFlaw → Type 0
IsIdentifierFault = IsNormalFault IsIdentifierFlaw

-- the two components of a kept tool identifier
pub record AreComponents (text tool name : List ℕ) : Type 0 where
  pub whole : text ≡ tool_mark ++ (tool ++ (colon ∷ name))
  pub tool_is_plain : IsPlainIdentifier (chars tool)
  pub name_is_plain : IsPlainIdentifier (chars name)
  pub tool_uncut : HasNoColon tool
  pub name_uncut : HasNoColon name

-- the text is a kept tool identifier
abbrev pub IsMarked : List ℕ → Type 0
IsMarked text = (tool name : List ℕ) × AreComponents text tool name
