use Rattle.std.proofs.Common.{◌≡◌, List, ◌++◌, map, take}
use Rattle.serde_json.specs.View.{members_view as json_members_view, view as json_view}
use Rattle.toml.proofs.Views.{Entry}
use Rattle.toml.specs.View.{members_view, view}
use Rattle.nextest_config_values.specs.Literal.Json.{json_data, json_members}
use Rattle.nextest_config_values.proofs.literal.json.+json.Given as goal

-- the items so far
abbrev pub invariant-items_in_json-loop-item : goal.invariant-items_in_json-loop-item
invariant-items_in_json-loop-item l =
    map json_view l.values.items ≡ map (λ v. json_data (view v)) (take l.item-index l.item-items)

-- the members so far
abbrev pub invariant-members_in_json-loop-key : goal.invariant-members_in_json-loop-key
invariant-members_in_json-loop-key l =
    (done : List Entry) × (l.members.entries ≡ done ++ l.key-iterator)
    × (json_members_view l.object.entries ≡ json_members (members_view done))
