use Rattle.std.proofs.Common.{◌≡◌, ◌++◌, flat_map, map, string_bytes}
use Rattle.nextest_config.specs.NextestVersion.{place_of}
use Rattle.nextest_config_report.specs.Lines.{array_line}
use Rattle.nextest_config_report.proofs.lines.push_arrays.Given as goal

abbrev pub invariant-loop-source : goal.invariant-loop-source
invariant-loop-source l = string_bytes l.text ≡ string_bytes l.fn.text ++ flat_map (array_line l.fn.style) (map (λ source. place_of source.now) l.yielded)
