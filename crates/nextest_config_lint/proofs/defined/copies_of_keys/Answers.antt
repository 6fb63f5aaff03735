use Rattle.std.proofs.Common.{◌∙◌}
use Rattle.std.proofs.lemmas.List.{map-id}
use Rattle.std.proofs.lemmas.Map.Iter.{iter_end}
use Rattle.std.specs.BTreeMap.{keys}
use Rattle.std.specs.Map.Iter.{deref}
use Rattle.nextest_config_lint.proofs.Keys.{all_names}
use Rattle.nextest_config_lint.proofs.defined.copies_of_keys.Goals as goal

pub returns : goal.returns
returns c =
    let ended = iter_end deref (keys c.args.table.now) c.loop-key.yielded _ _ _ _ (c.into_iter-key-iterator.ensures.into_iter_gives ∙ c.keys-key-items.ensures.rest) c.loop-key.yielded_by c.in-None.is c.next.ensures.steps in
    c.loop-key.invariant ∙ all_names c.args.table.now.entries c.loop-key.yielded (λ name. name) ended.0 ∙ map-id _
