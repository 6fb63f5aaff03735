use Rattle.std.proofs.Common.{map, string_bytes}
use Rattle.nextest_config_lint.specs.Found.{AddsFound}
use Rattle.nextest_config_lint.specs.Settings.{mark_step}
use Rattle.nextest_config_elements.specs.Fields.{field_words, fields_view}
use Rattle.nextest_config_lint.specs.Unknown.{IsKeyFound, key_at}
use Rattle.nextest_config_lint.proofs.unknown.add_beside.Given as goal

-- what was added so far is that of the keys so far
abbrev pub invariant-loop-name : goal.invariant-loop-name
invariant-loop-name l = AddsFound IsKeyFound (map (λ name. key_at (field_words (fields_view l.fields)) (map mark_step l.path) (string_bytes name.now)) l.yielded) l.fn.findings.items l.findings.items
