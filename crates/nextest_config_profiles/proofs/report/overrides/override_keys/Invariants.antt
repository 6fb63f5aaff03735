use Rattle.std.proofs.Common.{◌≡◌, ◌++◌, drop}
use Rattle.std.specs.List.{filter}
use Rattle.nextest_config_elements.specs.Fields.{field_words, fields_view}
use Rattle.nextest_config_profiles.specs.Reach.{words_of}
use Rattle.nextest_config_profiles.specs.Report.Overrides.{is_told, override_keys}
use Rattle.nextest_config_profiles.proofs.report.overrides.override_keys.Given as goal

-- those so far, and those that are left, are all
abbrev pub invariant-loop-field : goal.invariant-loop-field
invariant-loop-field l = words_of l.keys.items ++ filter is_told (field_words (fields_view (drop l.field-index l.fields))) ≡ override_keys
