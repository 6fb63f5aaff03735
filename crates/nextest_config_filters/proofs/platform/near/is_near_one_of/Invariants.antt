use Rattle.std.proofs.Common.{◌≡◌, drop, map}
use Rattle.std.specs.List.{list_any}
use Rattle.std.specs.Str.{chars}
use Rattle.nextest_config_values.specs.Read.{words_of}
use Rattle.nextest_config_filters.specs.Platform.Near.{is_within_two}
use Rattle.nextest_config_filters.proofs.platform.near.is_near_one_of.Given as goal

-- none of the words so far is near
abbrev pub invariant-loop-word : goal.invariant-loop-word
invariant-loop-word l =
    list_any (is_within_two (chars l.text)) (map chars (words_of l.words))
    ≡ list_any (is_within_two (chars l.text)) (map chars (words_of (drop l.word-index l.words)))
