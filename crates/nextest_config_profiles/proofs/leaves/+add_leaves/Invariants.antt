use Rattle.std.proofs.Common.{◌≡◌, ◌++◌, List, map, string_bytes}
use Rattle.toml.proofs.Views.{Entry}
use Rattle.toml.specs.View.{members_view}
use Rattle.nextest_config_profiles.specs.Leaves.{Adds, AreLeavesIn, placed_leaf}
use Rattle.nextest_config_profiles.proofs.leaves.+add_leaves.Given as goal

-- the leaves of the members so far
abbrev pub invariant-add_members-loop-key : goal.invariant-add_members-loop-key
invariant-add_members-loop-key l =
    (done : List Entry) × (l.members.entries ≡ done ++ l.key-iterator)
    × Adds (AreLeavesIn (map string_bytes l.keys) (members_view done)) (map placed_leaf l.fn.leaves.items) (map placed_leaf l.leaves.items)
