use Rattle.std.proofs.Common.{◌≡◌, ◌++◌, map, string_bytes, take}
use Rattle.nextest_config_profiles.specs.Reach.{words_of}
use Rattle.nextest_config_profiles.proofs.leaves.whole_path.Given as goal

-- the path, and the keys so far
abbrev pub invariant-loop-key : goal.invariant-loop-key
invariant-loop-key l = words_of l.whole.items ≡ words_of l.path ++ map string_bytes (take l.key-index l.keys)
