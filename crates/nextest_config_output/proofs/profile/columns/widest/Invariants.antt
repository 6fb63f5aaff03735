use Rattle.std.proofs.Common.{◌≡◌, ◌≤◌, map, take}
use Rattle.nextest_config_output.specs.Profile.Columns.{widest}
use Rattle.nextest_config_output.specs.Profile.SourcedLine.{line_of}
use Rattle.nextest_config_output.proofs.profile.columns.widest.Given as goal

-- the widest so far
abbrev pub invariant-loop-line : goal.invariant-loop-line
invariant-loop-line l =
    (l.most ≡ widest (map line_of (take l.line-index l.lines))) × (l.most ≤ 60)
