use Rattle.std.proofs.Common.{◌≡◌, ◌++◌, drop, map, string_bytes}
use Rattle.nextest_config_lint.specs.Explain.KnownKey.{known_key, path_of}
use Rattle.nextest_config_lint.specs.Explain.Places.{path_text}
use Rattle.nextest_config_lint.proofs.explain.nearest.push_all.Given as goal

-- those so far, and those that are left, are all
abbrev pub invariant-loop-key : goal.invariant-loop-key
invariant-loop-key l =
    map string_bytes l.paths.items ++ map (λ key. path_text (path_of key)) (map known_key (drop l.key-index l.known))
    ≡ map string_bytes l.fn.paths.items ++ map (λ key. path_text (path_of key)) (map known_key l.known)
