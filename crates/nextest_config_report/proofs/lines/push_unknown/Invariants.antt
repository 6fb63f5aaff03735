use Rattle.std.proofs.Common.{◌≡◌, ◌++◌, flat_map, map, string_bytes}
use Rattle.nextest_config.specs.NextestVersion.{told_by}
use Rattle.nextest_config_report.specs.Lines.{unknown_line}
use Rattle.nextest_config_report.proofs.lines.push_unknown.Given as goal

abbrev pub invariant-loop-source : goal.invariant-loop-source
invariant-loop-source l = string_bytes l.text ≡ string_bytes l.fn.text ++ flat_map (unknown_line l.fn.style) (map told_by l.yielded)
