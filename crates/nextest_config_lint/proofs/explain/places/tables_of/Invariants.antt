use Rattle.std.proofs.Common.{◌≡◌, ◌++◌, drop, flat_map, map, string_bytes}
use Rattle.nextest_config_lint.specs.Explain.KnownKey.{known_key}
use Rattle.nextest_config_lint.specs.Explain.Places.{table_if}
use Rattle.nextest_config_lint.proofs.explain.places.tables_of.Given as goal

-- those so far, and those that are left, are all
abbrev pub invariant-loop-key : goal.invariant-loop-key
invariant-loop-key l =
    map string_bytes l.tables.items ++ flat_map (table_if l.name) (map known_key (drop l.key-index l.known)) ≡ flat_map (table_if l.name) (map known_key l.known)
