use Rattle.std.proofs.Common.{◌≡◌, ℕ, List}
use Rattle.nextest_config_lint.specs.Inheritance.{link_in}
use Rattle.nextest_config_lint.proofs.Links.{link_after_entries}
use Rattle.nextest_config_lint.proofs.inheritance.add_links_among.Given as goal

-- with the entries that are left, the links so far come to those of all entries
abbrev pub invariant-loop-name : goal.invariant-loop-name
invariant-loop-name l = (profile : List ℕ) → link_after_entries l.position profile l.name-iterator (link_in l.links profile) ≡ link_after_entries l.position profile l.profiles.entries (link_in l.fn.links profile)
