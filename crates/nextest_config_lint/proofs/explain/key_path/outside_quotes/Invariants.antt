use Rattle.std.proofs.Common.{◌≡◌, ◌++◌, drop}
use Rattle.nextest_config_lint.specs.Explain.KeyPath.{outside_quotes}
use Rattle.nextest_config_lint.specs.declared.explain.key_path.Quoting.TheVariants.{Outside}
use Rattle.nextest_config_lint.proofs.explain.key_path.outside_quotes.Given as goal

-- those so far, and those that are left, are all
abbrev pub invariant-loop-byte : goal.invariant-loop-byte
invariant-loop-byte l = l.outside.items ++ outside_quotes l.quoting (drop l.byte-index l.byte-items) ≡ outside_quotes Outside l.byte-items
