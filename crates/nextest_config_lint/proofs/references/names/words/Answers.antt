use Rattle.std.proofs.Common.{◌∙◌}
use Rattle.std.proofs.lemmas.Map.Iter.{iter_end}
use Rattle.std.specs.Map.Iter.{deref}
use Rattle.nextest_config_lint.proofs.Keys.{all_texts}
use Rattle.nextest_config_lint.proofs.references.names.words.Goals as goal

pub returns : goal.returns
returns c =
    let ended = iter_end deref c.args.names.now.keys c.loop-name.yielded _ _ _ _ c.into_iter-name-iterator.ensures.into_iter_gives.0 c.loop-name.yielded_by c.in-None.is c.next.ensures.steps in
    c.loop-name.invariant ∙ all_texts c.args.names.now.keys c.loop-name.yielded ended.0
