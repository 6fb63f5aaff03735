use Rattle.std.proofs.Common.{◌≡◌, drop}
use Rattle.nextest_config_values.specs.Read.{value_of, words_of}
use Rattle.nextest_config_lint.proofs.unknown.is_known.Given as goal

-- the key is none so far
abbrev pub invariant-loop-key : goal.invariant-loop-key
invariant-loop-key l = value_of (λ word. word) (words_of l.known) l.name ≡ value_of (λ word. word) (words_of (drop l.key-index l.known)) l.name
