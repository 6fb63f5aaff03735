use Rattle.std.proofs.Common.{List}
use Rattle.std.specs.BTreeMap.{btree_map_len, get_by_text}
use Rattle.std.specs.Prelude.{IsUtf8}
use Rattle.nextest_config_lint.specs.Defined.{ListFile}
use Rattle.nextest_config_lint.specs.Inheritance.{AreLinks, link_in}
use Rattle.nextest_config_lint.specs.RingProfiles.{IsWalk, position_of}
use Rattle.nextest_config_lint.proofs.ring_profiles.add_ring.Given as goal

-- the walk so far
abbrev pub invariant-loop-link : goal.invariant-loop-link
invariant-loop-link l = ((files : List ListFile) → AreLinks files (link_in l.fn.trail) → IsWalk files position_of l.from l.current (link_in l.fn.trail) (link_in l.trail) (get_by_text l.fn.rings) (get_by_text l.rings))
    × IsUtf8 l.current

abbrev pub decreases-loop-link : goal.decreases-loop-link
decreases-loop-link l = btree_map_len l.trail
