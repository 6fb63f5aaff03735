use Rattle.std.proofs.Common.{◌≡◌, ◌++◌, drop, map}
use Rattle.serde_json.specs.Data.{string}
use Rattle.serde_json.specs.View.{view}
use Rattle.nextest_config_elements.specs.Fields.{fields_view}
use Rattle.nextest_config_schema.specs.Fields.{wanted_keys}
use Rattle.nextest_config_schema.proofs.fields.wanted_keys.Given as goal

-- those so far, and those that are left, are all
abbrev pub invariant-loop-field : goal.invariant-loop-field
invariant-loop-field l =
    map view l.keys.items
    ++ map string (wanted_keys l.place (fields_view (drop l.field-index l.fields)))
    ≡ map string (wanted_keys l.place (fields_view l.fields))
