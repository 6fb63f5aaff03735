use Rattle.std.proofs.Common.{◌≡◌, ◌++◌, drop}
use Rattle.nextest_config_elements.specs.Fields.{fields_view}
use Rattle.nextest_config_profiles.specs.Reach.{words_of}
use Rattle.nextest_config_profiles.specs.Report.Others.{other_keys, others_among}
use Rattle.nextest_config_profiles.proofs.report.others.other_keys.Given as goal

-- those so far, and those that are left, are all
abbrev pub invariant-loop-field : goal.invariant-loop-field
invariant-loop-field l = words_of l.keys.items ++ others_among (fields_view (drop l.field-index l.fields)) ≡ other_keys
