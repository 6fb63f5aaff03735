use Rattle.std.proofs.Common.{◌≡◌, None, Some, ap, arith, inl, option_map, rules, sym, ◌∙◌, ⊎_elim}
use Rattle.std.proofs.lemmas.Bool.{true≢false}
use Rattle.std.specs.BTreeMap.{btree_map_len}
use Rattle.nextest_config_lint.specs.Inheritance.{link_in, link_view}
use Rattle.nextest_config_lint.proofs.Links.{link_updates}
use Rattle.nextest_config_lint.proofs.Walks.{walk_on}
use Rattle.nextest_config_lint.proofs.ring_profiles.walk.Goals as goal

pub loop-link-preserved : goal.loop-link-preserved
loop-link-preserved c =
    let (walk, some_gone, utf8) = c.loop-link.invariant in
    let current = c.loop-link.current.now in
    let left = c.loop-link.left in
    let trail = c.loop-link.trail in
    let link = c.in-Some.link in
    let at = ap (option_map link_view) (sym c.remove.ensures.value ∙ c.in-Some.is) in
    let one_gone = rw c.in-Some.is at c.remove.ensures.len in (
      λ files links. walk_on links (walk files links)
          (link_in c.remove.new.self) (link_in c.insert.new.self) (link_view link) at
          (link_updates current left c.remove.new.self None c.remove.ensures.updates) (link_updates current trail c.insert.new.self (Some link) c.in_ok-insert.ensures.updates),
      inl (⊎_elim (λ fewer. omega (arith, one_gone, fewer)) (λ (at_first, all). omega (arith, one_gone, ap btree_map_len all)) some_gone),
      search rules,
    )

pub returns-clause-fewer : goal.returns-clause-fewer
returns-clause-fewer c = λ has.
    let (walk, some_gone, utf8) = c.loop-link.invariant in
    let none_gone = rw c.in_default.is at c.remove.ensures.len in
    let none : link_in c.loop-link.left c.loop-link.current.now ≡ None = ap (option_map link_view) (sym c.remove.ensures.value ∙ c.in_default.is) in
    ⊎_elim (λ fewer. omega (arith, none_gone, fewer)) (λ (at_first, all). absurd (true≢false (sym (rw (at_first, ← all, none) at has)))) some_gone
