use Rattle.std.proofs.Common.{◌≡◌, ◌++◌, List, length, map, take}
use Rattle.nextest_config_profiles.specs.LastValue.{IsLastValue}
use Rattle.nextest_config_profiles.specs.Reach.{lent_files, words_of}
use Rattle.nextest_config_profiles.specs.Said.{Said, said_at}
use Rattle.nextest_config_profiles.proofs.last_value.last_above.Given as goal

-- it is the last of the layers below and the files so far
abbrev pub invariant-loop-position : goal.invariant-loop-position
invariant-loop-position l = (all : List Said) → length all ≡ l.count → IsLastValue all l.below
    → IsLastValue (all ++ map (said_at (words_of l.path)) (lent_files (take l.position l.files))) l.last
