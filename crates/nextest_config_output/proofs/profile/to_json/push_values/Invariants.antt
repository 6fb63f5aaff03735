use Rattle.std.proofs.Common.{◌≡◌, ◌++◌, map, take}
use Rattle.serde_json.specs.View.{view}
use Rattle.nextest_config_output.proofs.profile.to_json.push_values.Given as goal

-- the values of those so far are pushed
abbrev pub invariant-loop-item : goal.invariant-loop-item
invariant-loop-item g l =
    map view l.values.items
    ≡ map view l.fn.values.items ++ map g.T.ToJson.json (take l.item-index l.items)
