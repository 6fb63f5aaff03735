-- What has an explanation, and its words.
use Rattle.std.specs.Prelude.{ℕ, List, [], ◌∷◌, ◌++◌, codes, map}
use Rattle.nextest_config_lint.specs.Code.{code_word, codes_in_order}
use Rattle.nextest_config_lint.specs.declared.explain.topic.Topic.{Topic}
use Rattle.nextest_config_lint.specs.declared.explain.topic.Topic.TheVariants.{Finding, NextestVersion}

-- all topics, in the order in which they are listed
abbrev pub topics : List Topic
topics = map Finding codes_in_order ++ (NextestVersion ∷ [])

-- the word of a topic: the code of a finding, or `nextest-version`
abbrev pub topic_word : Topic → List ℕ
topic_word (Finding code) = code_word code
topic_word NextestVersion = codes "nextest-version"
