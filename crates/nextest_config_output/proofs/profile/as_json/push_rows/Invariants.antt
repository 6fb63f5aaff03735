use Rattle.std.proofs.Common.{◌≡◌, ◌++◌, flat_map, map, take}
use Rattle.serde_json.specs.View.{view}
use Rattle.nextest_config_output.specs.Profile.AsJson.{row_objects}
use Rattle.nextest_config_output.proofs.profile.as_json.push_rows.Given as goal

-- what is reported of the keys so far is pushed
abbrev pub invariant-loop-row : goal.invariant-loop-row
invariant-loop-row l =
    map view l.values.items
    ≡ map view l.fn.values.items ++ flat_map row_objects (take l.row-index l.rows)
