use Rattle.nextest_config_profiles.proofs.EffectiveOnce.{effective_once}
use Rattle.nextest_config_profiles.proofs.laws.law_effective_once.Goals as goal

pub returns-clause-value : goal.returns-clause-value
returns-clause-value g c layers keys chain a b takes one other =
    (effective_once g.T.ProfileSetting.seen g.T.ProfileSetting.reading takes layers keys chain a b one other).0

pub returns-clause-profile : goal.returns-clause-profile
returns-clause-profile g c layers keys chain a b takes one other =
    (effective_once g.T.ProfileSetting.seen g.T.ProfileSetting.reading takes layers keys chain a b one other).1
