use Rattle.nextest_config.specs.NextestVersion.{features_reading, features_under, versions_reading}
use Rattle.nextest_config.proofs.laws.law_setting_once.Goals as goal

pub returns : goal.returns
returns c = record {
  versions = versions_reading.law;
  features = features_reading.law;
  of_edition = λ edition. (features_under edition).law;
}
