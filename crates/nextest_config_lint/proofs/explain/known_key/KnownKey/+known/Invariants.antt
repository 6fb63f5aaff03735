use Rattle.std.proofs.Common.{◌≡◌, ◌++◌, drop, map}
use Rattle.nextest_config_elements.specs.Fields.{fields_view}
use Rattle.nextest_config_lint.specs.Explain.KnownKey.{keys_among, known_key, table_step}
use Rattle.nextest_config_lint.proofs.explain.known_key.KnownKey.+known.Given as goal

-- those so far, and those that are left, are all
abbrev pub invariant-collect_fields-loop-field : goal.invariant-collect_fields-loop-field
invariant-collect_fields-loop-field l =
    map known_key l.all.items ++ keys_among (fields_view (drop l.field-index l.fields)) (map table_step l.table)
    ≡ map known_key l.fn.all.items ++ keys_among (fields_view l.fields) (map table_step l.table)
