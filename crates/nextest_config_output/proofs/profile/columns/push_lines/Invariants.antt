use Rattle.std.proofs.Common.{◌≡◌, ◌++◌, flat_map, map, string_bytes, take}
use Rattle.nextest_config_output.specs.Profile.Columns.{line_text}
use Rattle.nextest_config_output.specs.Profile.SourcedLine.{line_of}
use Rattle.nextest_config_output.proofs.profile.columns.push_lines.Given as goal

-- the lines so far are pushed
abbrev pub invariant-loop-line : goal.invariant-loop-line
invariant-loop-line l =
    string_bytes l.text ≡ string_bytes l.fn.text
    ++ flat_map (line_text l.column) (map line_of (take l.line-index l.lines))
