use Rattle.std.proofs.Common.{◌≡◌, map, string_bytes, take}
use Rattle.nextest_config_profiles.specs.Reach.{words_of}
use Rattle.nextest_config_profiles.proofs.texts.lent.Given as goal

-- the texts so far
abbrev pub invariant-loop-text : goal.invariant-loop-text
invariant-loop-text l = words_of l.words.items ≡ map string_bytes (take l.text-index l.texts)
