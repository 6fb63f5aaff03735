use Rattle.std.proofs.Common.{◌+◌, ◌*◌, ◌≤◌, length}
use denote.Text.{Utf8}
use denote.Shadow.{shadow}
use Rattle.toml_spans.specs.Entry.{no_branches, no_trees}
use Rattle.toml_spans.specs.EntryViews.{branches_of, trees_of}
use Rattle.toml_spans.specs.Value.{element_trees, member_trees, value_tree}
use Rattle.toml_spans.proofs.Turns.{Goes}
use Rattle.toml_spans.proofs.value.+value.Given as goal

abbrev pub decreases-elements : goal.decreases-elements
decreases-elements l = 3 * l.depth + 3

abbrev pub decreases-members : goal.decreases-members
decreases-members l = 3 * l.depth + 3

abbrev pub decreases-pair : goal.decreases-pair
decreases-pair l = 3 * l.depth + 2

abbrev pub decreases-value : goal.decreases-value
decreases-value l = 3 * l.depth + 1

abbrev pub invariant-elements-elements : goal.invariant-elements-elements
invariant-elements-elements l =
    shadow (Utf8 l.rest) × (length l.rest ≤ length l.fn.text)
    × Goes (element_trees (value_tree l.fn.depth)) l.fn.text no_trees (trees_of l.found) l.rest

abbrev pub invariant-members-members : goal.invariant-members-members
invariant-members-members l =
    shadow (Utf8 l.rest) × (length l.rest ≤ length l.fn.text)
    × Goes (member_trees (value_tree l.fn.depth)) l.fn.text no_branches (branches_of l.found) l.rest

abbrev pub decreases-elements-elements : goal.decreases-elements-elements
decreases-elements-elements l = length l.rest

abbrev pub decreases-members-members : goal.decreases-members-members
decreases-members-members l = length l.rest
