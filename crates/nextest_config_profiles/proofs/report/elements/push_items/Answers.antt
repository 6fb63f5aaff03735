use Rattle.std.proofs.Common.{◌∙◌, ◌∷◌, ◌++◌, [], ap, append_assoc, arith, map, sym, take}
use Rattle.std.proofs.lemmas.List.{length-take-le, map_push, take_more}
use Rattle.toml.specs.View.{items_view, view}
use Rattle.nextest_config_profiles.specs.Report.Elements.{element_of, numbered}
use Rattle.nextest_config_profiles.proofs.Numbered.{element, numbered_more}
use Rattle.nextest_config_profiles.proofs.report.elements.push_items.Goals as goal

pub loop-position-preserved : goal.loop-position-preserved
loop-position-preserved c =
    let items = c.in-Some.items.now in
    let i = c.loop-position.position in
    let value = c.index-items-position.result in
    let old = map element_of c.args.elements.now.items in
    let so_far = numbered c.args.profile.now c.args.layer 0 (items_view (take i items)) in
    let here = element c.args.profile.now c.args.layer i (view value) ∷ [] in
    rw (take_more items i value c.loop-position-test.true, ← c.index-items-position.is)
    (ap (map element_of) c.in_ok-push.ensures.items ∙ map_push element_of _ _ ∙ ap (λ front. front ++ here) c.loop-position.invariant ∙ append_assoc old so_far here
    ∙ ap (λ more. old ++ more) (sym (numbered_more c.args.profile.now c.args.layer i (take i items) value (length-take-le i items (omega (arith, c.loop-position-test.true))))))
