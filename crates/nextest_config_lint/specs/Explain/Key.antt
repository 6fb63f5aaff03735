-- What is said of a key.
use Rattle.std.specs.Prelude.{◌≡◌, ℕ, List, ◌++◌, codes}
use Rattle.nextest_config_elements.specs.Fields.{KeyRule}
use Rattle.nextest_config_lint.specs.Explain.Absent.{IsAbsentText}
use Rattle.nextest_config_lint.specs.Explain.Expected.{IsExpected}
use Rattle.nextest_config_lint.specs.Explain.Places.{places_text}
use Rattle.nextest_config_lint.specs.Settings.{seen_field}
use Rattle.nextest_config_lint.specs.declared.explain.key.KeyExplanation.{KeyExplanation}

-- the key that is explained
abbrev pub explained_rule : KeyExplanation → KeyRule
explained_rule explanation = (seen_field explanation.field.now).0

-- how it prints: what the key is for, what its value may be, what stands for it where it is absent,
-- a value that it may have, and where it stands
abbrev pub key_text : KeyRule → List ℕ → List ℕ → List ℕ → List ℕ → List ℕ
key_text rule sentence value absent example =
    sentence
    ++ (codes "\n\nValue: " ++ (value
    ++ (codes "\nWhere absent: " ++ (absent
    ++ (codes "\nExample: " ++ (rule.key
    ++ (codes " = " ++ (example
    ++ (codes "\nStands in: " ++ (places_text rule.key ++ codes "\n"))))))))))

-- the text says what there is to say of a key, of which this is what it is for, and this an example
pub record IsKeyText (rule : KeyRule) (sentence example text : List ℕ) : Type 0 where
  pub value : List ℕ
  pub absent : List ℕ
  pub is_expected : IsExpected rule.shape value
  pub is_absent : IsAbsentText rule absent
  pub whole : text ≡ key_text rule sentence value absent example
