use Rattle.std.proofs.Common.{◌≡◌, ◌++◌, ℕ, List}
use Rattle.toml.proofs.Views.{Entry}
use Rattle.toml.specs.Data.{get_member}
use Rattle.toml.specs.View.{members_view, table_view}
use Rattle.nextest_config_profiles.specs.Merging.{IsOver}
use Rattle.nextest_config_profiles.proofs.merged.+merge_value.Given as goal

-- the members so far lie over what was there, key by key
abbrev pub invariant-merge_members-loop-key : goal.invariant-merge_members-loop-key
invariant-merge_members-loop-key l =
    (done : List Entry) × (l.members.entries ≡ done ++ l.key-iterator)
    × ((key : List ℕ) → IsOver (get_member key (table_view l.fn.below)) (get_member key (members_view done)) (get_member key (table_view l.below)))
