use Rattle.std.proofs.Common.{◌≡◌, ◌++◌, Some, length}
use Rattle.toml.specs.View.{view}
use Rattle.nextest_config_profiles.specs.Reach.{lent, words_of}
use Rattle.nextest_config_profiles.specs.Said.{Path, said_at}
use Rattle.nextest_config_profiles.proofs.reach.follow.Given as goal

-- the keys that are left lead on from here as all do from the first value
abbrev pub invariant-loop-left : goal.invariant-loop-left
invariant-loop-left l =
    (below : Path) → said_at (words_of l.left ++ below) (Some (view l.value)) ≡ said_at (words_of l.fn.path ++ below) (lent l.fn.from)

abbrev pub decreases-loop-left : goal.decreases-loop-left
decreases-loop-left l = length l.left
