-- What stands for a key that is absent, as people are told.
use Rattle.std.specs.Prelude.{◌≡◌, ℕ, Bool, true, false, List, ◌++◌, codes, Some, None}
use Rattle.nextest_config_values.specs.Literal.Value.{IsLiteral}
use Rattle.nextest_config_elements.specs.Fields.{Absent, inherited, KeyRule, of_profile, taken}

-- the text tells what stands for a key that is absent: a value as TOML writes it, or nothing; what
-- the profile inherits, or else such a value; or what the profile has
abbrev pub IsStandInText : Absent → List ℕ → Type 0
IsStandInText (taken None) text = text ≡ codes "nothing"
IsStandInText (taken (Some value)) text = IsLiteral value text
IsStandInText (inherited None) text = text ≡ codes "what the profile inherits"
IsStandInText (inherited (Some value)) text = (literal : List ℕ) × IsLiteral value literal
    × (text ≡ codes "what the profile inherits, or else " ++ literal)
IsStandInText of_profile text = text ≡ codes "what the profile has"

-- and of a key that may be required
abbrev pub IsAbsentTextIf : Bool → Absent → List ℕ → Type 0
IsAbsentTextIf true absent text = text ≡ codes "it is required"
IsAbsentTextIf false absent text = IsStandInText absent text

-- the text tells what holds of a table without the key
abbrev pub IsAbsentText : KeyRule → List ℕ → Type 0
IsAbsentText rule = IsAbsentTextIf rule.required rule.absent
