-- The list of what has an explanation.
use Rattle.std.specs.Prelude.{◌≡◌, ℕ, List, ◌++◌, ◌==◌, codes, flat_map, map}
use Rattle.std.specs.List.{before_first, join_by}
use Rattle.std.specs.Str.Lines.{lines}
use Rattle.nextest_config_lint.specs.Explain.Topic.{topic_word}
use Rattle.nextest_config_lint.specs.declared.explain.explanation.Explanation.{Explanation}
use Rattle.nextest_config_lint.specs.declared.explain.topic.Topic.{Topic}

-- the byte `.`
abbrev pub full_stop : ℕ
full_stop = 46

-- the text before its first full stop
abbrev pub before_full_stop : List ℕ → List ℕ
before_full_stop = before_first (λ b. b == full_stop)

-- the first sentence of a text in one line, without its full stop
abbrev pub first_sentence : List ℕ → List ℕ
first_sentence text = join_by (λ line. line) (codes " ") (lines (before_full_stop text))

-- a line of the list, `CODE: SENTENCE`: a topic's word, and the first sentence of what it means
abbrev pub explanation_line : Explanation → List ℕ
explanation_line explanation =
    topic_word explanation.topic
    ++ (codes ": " ++ (first_sentence explanation.meaning.now ++ codes ".\n"))

-- the text is the lines of explanations, one of each topic
pub record AreListed (topics : List Topic) (text : List ℕ) : Type 0 where
  pub explanations : List Explanation
  pub each : map (λ explanation. explanation.topic) explanations ≡ topics
  pub lines : text ≡ flat_map explanation_line explanations
