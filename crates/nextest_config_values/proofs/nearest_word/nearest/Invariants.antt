use Rattle.std.proofs.Common.{option_map, take}
use Rattle.nextest_config_values.specs.Read.{words_of}
use Rattle.nextest_config_values.proofs.NearestWords.{IsSoFar}
use Rattle.nextest_config_values.proofs.nearest_word.nearest.Given as goal

abbrev pub invariant-loop-word : goal.invariant-loop-word
invariant-loop-word l = IsSoFar (words_of (take l.word-index l.words)) l.name (option_map (λ word. word.now) l.found) l.limit
