use Rattle.std.proofs.Common.{◌≡◌, drop, map}
use Rattle.nextest_config_lint.specs.Explain.KeyPath.{key_along}
use Rattle.nextest_config_lint.specs.Explain.KnownKey.{known_key}
use Rattle.nextest_config_lint.proofs.explain.key_path.first_along.Given as goal

-- none so far
abbrev pub invariant-loop-key : goal.invariant-loop-key
invariant-loop-key l =
    key_along (map (λ piece. piece.now) l.pieces) (map known_key l.known) ≡ key_along (map (λ piece. piece.now) l.pieces) (map known_key (drop l.key-index l.known))
