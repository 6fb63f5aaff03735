use Rattle.nextest_config_profiles.specs.Profile.{layers_in}
use Rattle.nextest_config_profiles.proofs.report.given.GivenAtReaderVisitor.visit.Goals as goal

pub returns : goal.returns
returns g c = (c.in_ok-given.given, c.in_ok-given.ensures (layers_in c.args.self.effective.now) c.requires, c.given_of.ensures)
