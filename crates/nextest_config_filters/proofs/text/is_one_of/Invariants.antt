use Rattle.std.proofs.Common.{◌≡◌, drop, map}
use Rattle.std.specs.Str.{chars}
use Rattle.nextest_config_values.specs.Read.{words_of}
use Rattle.nextest_config_filters.specs.Text.{is_one_of}
use Rattle.nextest_config_filters.proofs.text.is_one_of.Given as goal

-- it is none of the words so far
abbrev pub invariant-loop-word : goal.invariant-loop-word
invariant-loop-word l =
    is_one_of (chars l.text) (map chars (words_of l.words))
    ≡ is_one_of (chars l.text) (map chars (words_of (drop l.word-index l.words)))
