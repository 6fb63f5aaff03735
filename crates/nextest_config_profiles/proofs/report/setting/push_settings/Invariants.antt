use Rattle.std.proofs.Common.{◌≡◌, ◌++◌, drop, map}
use Rattle.nextest_config_elements.specs.Fields.{fields_view}
use Rattle.nextest_config_profiles.specs.Reach.{words_of}
use Rattle.nextest_config_profiles.specs.Report.Setting.{rule_owned, settings_at}
use Rattle.nextest_config_profiles.proofs.report.setting.push_settings.Given as goal

-- those so far, and those that are left, are all
abbrev pub invariant-loop-field : goal.invariant-loop-field
invariant-loop-field l =
    map rule_owned l.settings.items ++ settings_at (words_of l.above) (fields_view (drop l.field-index l.fields))
    ≡ map rule_owned l.fn.settings.items ++ settings_at (words_of l.above) (fields_view l.fields)
