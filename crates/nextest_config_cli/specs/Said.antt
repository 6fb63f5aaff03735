-- What is said of words that ask for nothing, and of those that ask for an explanation.
use Rattle.std.specs.Prelude.{◌≡◌, ℕ, List, ◌++◌, codes, Option, Some, None, option_map, string_bytes}
use Rattle.nextest_config_lint.specs.Explain.Explanation.{explanation_text}
use Rattle.nextest_config_lint.specs.Explain.Key.{explained_rule, IsKeyText}
use Rattle.nextest_config_lint.specs.Explain.Topic.{topics}
use Rattle.nextest_config_lint.specs.Explain.TopicList.{AreListed}
use Rattle.nextest_config_lint.specs.declared.explain.explanation.Explanation.{Explanation}
use Rattle.nextest_config_cli.specs.declared.arguments.Explained.{Explained}
use Rattle.nextest_config_cli.specs.declared.arguments.Explained.TheVariants as explained
use Rattle.nextest_config_values.specs.Literal.Shown.{shown_lines, shown_text}
use Rattle.toml_spans.specs.QuotedText.{quoted_text}
use Rattle.nextest_config_cli.specs.declared.usage_error.UsageError.{UsageError}
use Rattle.nextest_config_cli.specs.declared.usage_error.UsageError.TheVariants as refusal

-- what is said of a topic or of a key, or the list of all topics
abbrev pub Explains : Explained → List ℕ → Type 0
Explains explained.All text = AreListed topics text
Explains (explained.Topic topic) text = (explanation : Explanation)
    × (explanation.topic ≡ topic) × (text ≡ explanation_text explanation)
Explains (explained.Key key) text =
    IsKeyText (explained_rule key) key.said.sentence.now key.said.example.now text

-- the lines show what is said of a topic or of a key, or the list of all topics
pub record ShowsExplained (explained : Explained) (lines : List ℕ) : Type 0 where
  pub text : List ℕ
  pub explains : Explains explained text
  pub shown : lines ≡ shown_lines text

-- that a word is no topic and leads to no key, and which may be meant
abbrev pub not_topic_text : List ℕ → Option (List ℕ) → List ℕ
not_topic_text word (Some near) = codes "neither a code nor a key: " ++ (shown_text word
    ++ (codes ", did you mean " ++ (quoted_text near ++ codes "\n")))
not_topic_text word None =
    codes "neither a code nor a key: " ++ (shown_text word ++ codes "\n")

-- that a path is that of no key of a profile, and which one may be meant
abbrev pub no_key_text : List ℕ → Option (List ℕ) → List ℕ
no_key_text path (Some near) = codes "no key " ++ (shown_text (quoted_text path)
    ++ (codes ", did you mean " ++ (quoted_text near ++ codes "\n")))
no_key_text path None = codes "no key " ++ (shown_text (quoted_text path) ++ codes "\n")

-- the lines of a refusal: what others wrote in them is shown, as the words, and the texts of `clap`
-- and of the system
abbrev pub Says : UsageError → List ℕ → Type 0
Says (refusal.Clap error) lines = (text : List ℕ) × (lines ≡ shown_lines text)
Says (refusal.Words said) lines = lines ≡ said.now ++ codes "\n"
Says (refusal.NotVersion word) lines =
    lines ≡ codes "not a version: " ++ (shown_text word.now ++ codes "\n")
Says (refusal.NotCode word) lines =
    lines ≡ codes "not a code: " ++ (shown_text word.now ++ codes "\n")
Says (refusal.NotTopic word near) lines =
    lines ≡ not_topic_text word.now (option_map string_bytes near)
Says (refusal.NotKey path near) lines =
    lines ≡ no_key_text path.now (option_map string_bytes near)
Says (refusal.Tool error) lines = (text : List ℕ) × (lines ≡ shown_text text ++ codes "\n")
Says (refusal.CurrentFolder error) lines =
    (text : List ℕ) × (lines ≡ codes "current folder: " ++ (shown_text text ++ codes "\n"))
Says refusal.Memory lines = ⊥
