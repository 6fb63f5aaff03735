use Rattle.std.proofs.Common.{None, refl}
use Rattle.toml.specs.View.{view}
use Rattle.nextest_config_profiles.proofs.Given.{rest_read}
use Rattle.nextest_config_profiles.proofs.report.converted.read_rest.Goals as goal

pub returns-in-Some : goal.returns-in-Some
returns-in-Some g c =
    let read = rw c.in-Some.is at c.in_ok-given.ensures in
    rw c.given_of.ensures (rest_read g.T.ProfileSetting.seen g.T.ProfileSetting.reading c.args.profile.now (view c.args.rest.now) c.in-Some.given read.0 read.1)

pub returns-in-None : goal.returns-in-None
returns-in-None g c = (refl, (None, rw c.in-None.is at c.in_ok-given.ensures))
