use Rattle.std.proofs.Common.{◌≡◌, ◌≢◌, false, inr, rules}
use Rattle.std.proofs.lemmas.Result.{IfOk-weaker}
use Rattle.nextest_config_lint.specs.Defined.{default_profile}
use Rattle.nextest_config_lint.proofs.references.profiles.of_parent.Goals as goal

pub returns-clause-reported : goal.returns-clause-reported
returns-clause-reported c =
    let other : c.args.profile.now ≢ default_profile = search rules in
    let stays : c.comes_back.result ≡ false = search rules in
    IfOk-weaker c.of_parent_name.result _ _ (λ reported named. λ files by.
    inr (other, inr ((λ comes. cc (stays, (c.comes_back.ensures files by).1 comes)), named files by))) c.of_parent_name.ensures.reported
