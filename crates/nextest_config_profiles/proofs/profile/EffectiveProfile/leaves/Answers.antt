use Rattle.std.proofs.Common.{subst}
use Rattle.std.specs.List.{AllByRecursion}
use Rattle.nextest_config_profiles.specs.Leaves.{AreAllLeaves, IsLeafBelow}
use Rattle.nextest_config_profiles.specs.Reach.{words_of}
use Rattle.nextest_config_profiles.proofs.profile.EffectiveProfile.leaves.Goals as goal

pub returns-clause-each : goal.returns-clause-each
returns-clause-each c =
    subst (λ layers. AllByRecursion (IsLeafBelow layers (words_of c.args.path.now)) c.in_ok-leaves.leaves.items) c.lent.ensures c.in_ok-leaves.ensures.each

pub returns-clause-all : goal.returns-clause-all
returns-clause-all c =
    subst (λ layers. AreAllLeaves layers (words_of c.args.path.now) c.in_ok-leaves.leaves.items) c.lent.ensures c.in_ok-leaves.ensures.all
