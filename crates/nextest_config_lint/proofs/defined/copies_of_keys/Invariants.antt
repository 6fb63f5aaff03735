use Rattle.std.proofs.Common.{◌≡◌, map, string_bytes}
use Rattle.nextest_config_lint.proofs.defined.copies_of_keys.Given as goal

-- those of the keys so far
abbrev pub invariant-loop-key : goal.invariant-loop-key
invariant-loop-key l = map string_bytes l.copies.items ≡ map (λ key. string_bytes key.now) l.yielded
