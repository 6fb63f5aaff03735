use Rattle.std.proofs.Common.{◌≡◌, Some, refl, ◌∙◌}
use Rattle.std.proofs.lemmas.List.Elements.{recursion_from_All}
use Rattle.std.specs.BTreeMap.{get}
use Rattle.std.specs.String.{string_cmp}
use Rattle.nextest_config_lint.specs.Inheritance.{link_in}
use Rattle.nextest_config_lint.proofs.Links.{after_all}
use Rattle.nextest_config_lint.proofs.inheritance.add_links_among.Goals as goal

-- nothing is left, and the table has each entry at its key
pub returns : goal.returns
returns c = λ profile.
    let table = c.args.profiles.now in
    let at = recursion_from_All (λ entry. get string_cmp table entry.0 ≡ Some entry.1) table.entries c.into_iter-name-iterator.ensures.into_iter_gives.6 in
    (rw c.in-None.ensures.steps.0 at (c.loop-name.invariant profile)) ∙ after_all c.args.position profile table table.entries (link_in c.args.links.now profile) at refl
