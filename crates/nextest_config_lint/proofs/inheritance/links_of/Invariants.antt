use Rattle.std.proofs.Common.{◌≡◌, ℕ, List, None, drop, map}
use Rattle.nextest_config_lint.specs.Defined.{file_of}
use Rattle.nextest_config_lint.specs.Inheritance.{link_in}
use Rattle.nextest_config_lint.proofs.Links.{link_after}
use Rattle.nextest_config_lint.proofs.inheritance.links_of.Given as goal

-- with the files that are left, the links so far come to those of all files
abbrev pub invariant-loop-position : goal.invariant-loop-position
invariant-loop-position l = (profile : List ℕ) → link_after profile l.position (map file_of (drop l.position l.files)) (link_in l.links profile) ≡ link_after profile 0 (map file_of l.files) None
