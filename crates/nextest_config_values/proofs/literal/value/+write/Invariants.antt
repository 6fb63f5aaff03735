use Rattle.std.proofs.Common.{◌≡◌, List, ℕ, ◌++◌, take}
use Rattle.std.specs.Fmt.{HasWritten, IsPlainFormatter}
use denote.Shadow.{shadow}
use denote.Text.{Utf8}
use Rattle.toml.proofs.Views.{Entry}
use Rattle.toml.specs.View.{items_view, members_view}
use Rattle.nextest_config_values.proofs.Joined.{separator_after}
use Rattle.nextest_config_values.specs.Read.{comma_list}
use Rattle.nextest_config_values.specs.Literal.Value.{AreItems, AreMembers}
use Rattle.nextest_config_values.proofs.literal.value.+write.Given as goal

-- the items so far are written, and the separator is what stands before the next one
abbrev pub invariant-write_items-loop-item : goal.invariant-write_items-loop-item
invariant-write_items-loop-item g l =
    shadow (Utf8 l.separator)
    × (l.separator ≡ separator_after (take l.item-index l.item-items))
    × (IsPlainFormatter l.fn.f → (texts : List (List ℕ)) × AreItems (items_view (take l.item-index l.item-items)) texts
    × HasWritten g.W.Write.write_str_gives l.fn.f (comma_list texts) l.f)

-- the same of the members
abbrev pub invariant-write_members-loop-key : goal.invariant-write_members-loop-key
invariant-write_members-loop-key g l =
    shadow (Utf8 l.separator)
    × ((done : List Entry) × (l.fn.members.entries ≡ done ++ l.key-iterator)
    × (l.separator ≡ separator_after done)
    × (IsPlainFormatter l.fn.f → (texts : List (List ℕ)) × AreMembers (members_view done) texts
    × HasWritten g.W.Write.write_str_gives l.fn.f (comma_list texts) l.f))
