use Rattle.std.proofs.Common.{None, Some, ap, option_map, rules, string_bytes, sym, ◌∙◌}
use Rattle.std.proofs.lemmas.Map.Text.{btree_map_updates_text}
use Rattle.std.specs.BTreeMap.{get_by_text}
use Rattle.nextest_config_lint.specs.Inheritance.{link_in, link_view}
use Rattle.nextest_config_lint.proofs.Links.{link_updates}
use Rattle.nextest_config_lint.proofs.Walks.{walk_on}
use Rattle.nextest_config_lint.proofs.ring_profiles.add_ring.Goals as goal

pub loop-link-preserved : goal.loop-link-preserved
loop-link-preserved c =
    let (walk, utf8) = c.loop-link.invariant in
    let current = c.loop-link.current.now in
    let trail = c.loop-link.trail in
    let rings = c.loop-link.rings in
    let link = c.in-Some.link in
    let name = c.in_ok-from_str.field-0 in
    let at = ap (option_map link_view) (sym c.remove.ensures.value ∙ c.in-Some.is) in (
      λ files links. walk_on links (walk files links)
          (link_in c.remove.new.self) (get_by_text c.insert.new.self) (link_view link) at
          (link_updates current trail c.remove.new.self None c.remove.ensures.updates)
          (rw c.in_ok-from_str.ensures.ok at (btree_map_updates_text (string_bytes name) rings c.insert.new.self (Some link.position) c.in_ok-insert.ensures.updates)),
      search rules,
    )

pub returns : goal.returns
returns c = λ files links. (c.loop-link.current.now, search rules, search rules)
