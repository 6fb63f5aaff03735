use Rattle.std.proofs.Common.{◌≡◌, ◌++◌, map, take}
use Rattle.nextest_config_output.specs.Profile.SourcedLine.{line_of}
use Rattle.nextest_config_output.proofs.profile.setting_lines.push_each.Given as goal

-- the lines of those so far are pushed
abbrev pub invariant-loop-item : goal.invariant-loop-item
invariant-loop-item g l =
    map line_of l.lines.items
    ≡ map line_of l.fn.lines.items ++ map (g.T.ToLine.reported l.name) (take l.item-index l.items)
