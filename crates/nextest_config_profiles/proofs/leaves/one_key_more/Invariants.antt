use Rattle.std.proofs.Common.{◌≡◌, map, string_bytes, take}
use Rattle.nextest_config_profiles.proofs.leaves.one_key_more.Given as goal

-- the keys so far
abbrev pub invariant-loop-one : goal.invariant-loop-one
invariant-loop-one l = map string_bytes l.more.items ≡ map string_bytes (take l.one-index l.keys)
