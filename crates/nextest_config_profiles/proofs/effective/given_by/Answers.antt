use Rattle.std.proofs.Common.{◌∷◌, [], inl}
use Rattle.toml.specs.View.{view}
use Rattle.nextest_config_profiles.specs.Reach.{words_of}
use Rattle.nextest_config_profiles.proofs.Given.{given_result}
use Rattle.nextest_config_profiles.proofs.effective.given_by.Goals as goal

pub returns-in_ok-given-in-Some : goal.returns-in_ok-given-in-Some
returns-in_ok-given-in-Some g c all reached =
    given_result g.T.ProfileSetting.seen g.T.ProfileSetting.reading all (words_of c.args.keys.now) c.args.profile.now (view c.in-Some.value)
    (rw c.in-Some.is at (c.in_ok-value.ensures all (c.args.profile.now ∷ []) reached))
    c.in_ok-given-in-Some.given c.in_ok-given-in-Some.ensures

pub returns-in-None : goal.returns-in-None
returns-in-None g c all reached = inl (rw c.in-None.is at (c.in_ok-value.ensures all (c.args.profile.now ∷ []) reached))
