use Rattle.std.proofs.Common.{◌≡◌, map, string_bytes, take}
use Rattle.nextest_config_profiles.specs.Reach.{words_of}
use Rattle.nextest_config_profiles.proofs.texts.copies.Given as goal

-- the names so far
abbrev pub invariant-loop-name : goal.invariant-loop-name
invariant-loop-name l = map string_bytes l.copies.items ≡ words_of (take l.name-index l.names)
