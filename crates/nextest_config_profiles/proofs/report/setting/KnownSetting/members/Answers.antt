use Rattle.std.proofs.Common.{◌∙◌, ap}
use Rattle.nextest_config_profiles.proofs.Settings.{rules_seen}
use Rattle.nextest_config_profiles.specs.Report.Setting.{rules_in}
use Rattle.nextest_config_profiles.proofs.report.setting.KnownSetting.members.Goals as goal

pub returns : goal.returns
returns c = rules_seen c.fields_below.result.now ∙ ap rules_in c.fields_below.ensures
