use Rattle.std.proofs.Common.{◌≡◌, ◌⊎◌, ◌<◌, List}
use Rattle.std.specs.BTreeMap.{btree_map_len}
use Rattle.std.specs.Prelude.{IsUtf8}
use Rattle.nextest_config_lint.specs.Defined.{ListFile}
use Rattle.nextest_config_lint.specs.Inheritance.{AreLinks, link_in}
use Rattle.nextest_config_lint.specs.RingProfiles.{IsWalk, same_link}
use Rattle.nextest_config_lint.proofs.ring_profiles.walk.Given as goal

-- the walk so far; and some is gone, or it is at its first profile
abbrev pub invariant-loop-link : goal.invariant-loop-link
invariant-loop-link l = ((files : List ListFile) → AreLinks files (link_in l.fn.left) → IsWalk files same_link l.from l.current (link_in l.fn.left) (link_in l.left) (link_in l.fn.trail) (link_in l.trail))
    × ((btree_map_len l.left < btree_map_len l.fn.left) ⊎ ((l.from ≡ l.current) × (l.left ≡ l.fn.left)))
    × IsUtf8 l.current

abbrev pub decreases-loop-link : goal.decreases-loop-link
decreases-loop-link l = btree_map_len l.left
