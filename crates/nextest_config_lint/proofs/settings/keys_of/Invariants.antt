use Rattle.std.proofs.Common.{◌≡◌, ◌++◌, drop}
use Rattle.nextest_config_values.specs.Read.{words_of}
use Rattle.nextest_config_elements.specs.Fields.{field_words, fields_view}
use Rattle.nextest_config_lint.proofs.settings.keys_of.Given as goal

-- those so far, and those that are left, are all
abbrev pub invariant-loop-field : goal.invariant-loop-field
invariant-loop-field l = words_of l.keys.items ++ field_words (fields_view (drop l.field-index l.fields)) ≡ field_words (fields_view l.fields)
