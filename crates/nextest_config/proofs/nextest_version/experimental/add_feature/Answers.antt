use Rattle.nextest_config.specs.NextestVersion.SetLaws.{one_more}
use Rattle.nextest_config.proofs.SourceOrders.{derived_cmp, derived_exact}
use Rattle.nextest_config.proofs.nextest_version.experimental.add_feature.Goals as goal

pub returns-clause-added : goal.returns-clause-added
returns-clause-added c = one_more derived_cmp derived_exact c.args.feature c.args.features.now.keys c.insert.new.self.keys c.in_ok-insert.ensures.keys
