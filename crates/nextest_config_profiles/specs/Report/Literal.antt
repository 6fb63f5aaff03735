-- Values with how they are written.
use Rattle.std.specs.Prelude.{◌≡◌, None, Option, Some, string_bytes}
use Rattle.toml.specs.Data.{Data}
use Rattle.toml.specs.View.{view}
use Rattle.nextest_config_values.specs.Literal.Value.{IsLiteral}
use Rattle.nextest_config_profiles.specs.declared.report.parts.Literal.{Literal}

-- this value, and a text that writes it in TOML
pub record IsLiteralOf (value : Data) (literal : Literal) : Type 0 where
  pub value_is : view literal.value ≡ value
  pub text_is : IsLiteral value (string_bytes literal.text)

-- a value with a text that writes it, if there is a value
abbrev pub IsLiteralIf : Option Data → Option Literal → Type 0
IsLiteralIf None literal = literal ≡ None
IsLiteralIf (Some value) None = ⊥
IsLiteralIf (Some value) (Some literal) = IsLiteralOf value literal
