-- The boolean or the integer that is meant by a text.
use Rattle.std.specs.Prelude.{◌≡◌, ◌⊎◌, ℕ, List, codes, Option, Some, None}
use Rattle.toml.specs.Data.{boolean, Data, integer}
use Rattle.nextest_config_values.specs.Literal.Value.{IsLiteral}
use Rattle.nextest_config.specs.declared.nextest_version.edition.Edition.TheVariants.{ArrayAllowed}
use Rattle.nextest_config_elements.specs.MaxFail.{HasInteger}
use Rattle.nextest_config_elements.specs.declared.field.Shape.{Shape}
use Rattle.nextest_config_lint.specs.Found.{Suggestion, the_toml}
use Rattle.nextest_config_lint.specs.Shapes.{shape_check}

-- the text writes this boolean, or this integer of 64 bits: as TOML writes it, or by `-0`
abbrev pub Writes : List ℕ → Data → Type 0
Writes text (boolean truth) = IsLiteral (boolean truth) text
Writes text (integer number) = HasInteger text number
    × (IsLiteral (integer number) text ⊎ (text ≡ codes "-0"))
Writes text value = ⊥

-- a value is meant where the shape takes it, as TOML writes it
abbrev pub IsHintIfTaken : Shape → Data → Option Suggestion → Type 0
IsHintIfTaken shape value None = (shape_check ArrayAllowed shape).passes value → ⊥
IsHintIfTaken shape value (Some suggestion) = (shape_check ArrayAllowed shape).passes value
    × ((written : List ℕ) × IsLiteral value written × (suggestion ≡ the_toml written))

-- what may be meant by a text: the boolean or the integer that it writes, if the shape takes that
abbrev pub IsSuggestedByText : Shape → List ℕ → Option Suggestion → Type 0
IsSuggestedByText shape text hint =
    ((value : Data) × Writes text value × IsHintIfTaken shape value hint)
    ⊎ (((value : Data) → Writes text value → ⊥) × (hint ≡ None))

-- what may be meant by a value, if that is a text
abbrev pub IsWrittenHint : Shape → Option (List ℕ) → Option Suggestion → Type 0
IsWrittenHint shape None hint = hint ≡ None
IsWrittenHint shape (Some text) hint = IsSuggestedByText shape text hint
