-- What files in memory hold.
use Rattle.std.specs.Prelude.{List, ℕ, codes, Option, Some, None, String, string_bytes}
use Rattle.std.specs.BTreeMap.{BTreeMap, get_by_text}
use Rattle.std.specs.declared.alloc.Global.{Global}
use Rattle.nextest_config_command.specs.Files.{absent, bytes, folder, PathState, unreadable}
use Rattle.nextest_config_test_command.specs.declared.memory.Held.{Held}
use Rattle.nextest_config_test_command.specs.declared.memory.Held.TheVariants.{Contents, Folder, Unreadable}

-- the state of a path, by what the table has for it
abbrev pub state_if : Option Held → PathState
state_if (Some (Contents contents)) = bytes contents.items
state_if (Some Folder) = folder (codes "it is a folder")
state_if (Some (Unreadable reason)) = unreadable (string_bytes reason)
state_if None = absent (codes "nothing is there")

-- at a path, or without one on standard input
abbrev pub state_at : BTreeMap (String Global) Held → Option (List ℕ) → PathState
state_at table (Some path) = state_if (get_by_text table path)
state_at table None = state_if (get_by_text table (codes "-"))
