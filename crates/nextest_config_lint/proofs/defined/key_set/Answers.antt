use Rattle.std.proofs.Common.{rules, string_cmp}
use Rattle.std.proofs.lemmas.Iterator.Adapters.{fact_from_collect, YieldsList-from_vec}
use Rattle.std.proofs.lemmas.Result.{IfOk-weaker}
use Rattle.std.specs.BTreeSet.{IsFromIterResult}
use Rattle.nextest_config_lint.proofs.NameSets.{made_of}
use Rattle.nextest_config_lint.proofs.defined.key_set.Goals as goal

pub returns : goal.returns
returns c =
    let copies = c.in_ok-keys.keys.items in
    IfOk-weaker c.collect.result _ _ (λ set made name. rw c.in_ok-keys.ensures at (made_of copies set made name))
    (fact_from_collect (IsFromIterResult string_cmp) c.collect.result c.collect.ensures.ran
    (YieldsList-from_vec copies c.into_iter.ensures.rest (search rules)))
