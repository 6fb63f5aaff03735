use Rattle.std.proofs.Common.{map, string_bytes}
use Rattle.nextest_config_values.specs.Identifier.{IsIdentifier}
use Rattle.nextest_config_lint.specs.Defined.{AddsNames, SomeOf}
use Rattle.nextest_config_lint.proofs.defined.add_kept_of.Given as goal

-- those of the keys so far
abbrev pub invariant-loop-key : goal.invariant-loop-key
invariant-loop-key l = AddsNames (λ name. SomeOf (λ key. IsIdentifier key name) (map (λ key. string_bytes key.now) l.yielded)) (map string_bytes l.fn.names.keys) (map string_bytes l.names.keys)
