use Rattle.std.proofs.Common.{◌≡◌, ◌++◌, drop, map}
use Rattle.nextest_config_elements.specs.Fields.{fields_view}
use Rattle.nextest_config_profiles.specs.Report.Setting.{all_settings, rule_owned, settings_below}
use Rattle.nextest_config_profiles.proofs.report.setting.all_settings.Given as goal

-- those so far, and those that are left, are all
abbrev pub invariant-loop-field : goal.invariant-loop-field
invariant-loop-field l = map rule_owned l.settings.items ++ settings_below (fields_view (drop l.field-index l.fields)) ≡ all_settings
