use Rattle.nextest_config.specs.NextestVersion.ExperimentalConfigLaws.{features_join}
use Rattle.nextest_config.specs.NextestVersion.KeptVersionsLaws.{kept_join, roles_join}
use Rattle.nextest_config.specs.NextestVersion.VersionOnlyLaws.{configurations_join}
use Rattle.nextest_config.proofs.laws.law_join.Goals as goal

pub returns : goal.returns
returns c = record { role = kept_join; roles = roles_join; features = features_join; configurations = configurations_join }
