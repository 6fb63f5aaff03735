use Rattle.std.proofs.Common.{◌≡◌, flat_map, map, take}
use Rattle.serde_json.specs.View.{view}
use Rattle.nextest_config_output.specs.Profile.AsJson.{row_objects}
use Rattle.nextest_config_output.proofs.profile.as_json.settings_value.Given as goal

-- what is reported of the settings so far
abbrev pub invariant-loop-rows : goal.invariant-loop-rows
invariant-loop-rows l =
    map view l.values.items
    ≡ flat_map (λ rows. flat_map row_objects rows.items) (take l.rows-index l.settings)
