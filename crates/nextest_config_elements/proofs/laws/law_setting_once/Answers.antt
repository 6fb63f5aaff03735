use Rattle.nextest_config_values.specs.Helpers.PathsLaws.{relative_path_reading}
use Rattle.nextest_config_elements.proofs.laws.law_setting_once.Goals as goal

pub returns : goal.returns
returns g c = record {
  setting = g.T.ProfileSetting.reading.law;
  relative_path = relative_path_reading.law;
}
