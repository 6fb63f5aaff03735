use Rattle.std.proofs.Common.{◌≡◌, map, string_bytes}
use Rattle.nextest_config_values.specs.Read.{words_of}
use Rattle.nextest_config_lint.proofs.references.names.words.Given as goal

abbrev pub invariant-loop-name : goal.invariant-loop-name
invariant-loop-name l = words_of l.words.items ≡ map (λ name. string_bytes name.now) l.yielded
