use Rattle.std.proofs.Common.{map}
use Rattle.std.specs.BTreeMap.{btree_map_len, get_by_text}
use Rattle.nextest_config_lint.specs.Defined.{file_of}
use Rattle.nextest_config_lint.specs.Inheritance.{link_in}
use Rattle.nextest_config_lint.proofs.Walks.{AreSettled}
use Rattle.nextest_config_lint.proofs.ring_profiles.find_ring_profiles.Given as goal

abbrev pub invariant-loop-profile : goal.invariant-loop-profile
invariant-loop-profile l = AreSettled (map file_of l.files) (link_in l.left) (get_by_text l.rings)

abbrev pub decreases-loop-profile : goal.decreases-loop-profile
decreases-loop-profile l = btree_map_len l.left
