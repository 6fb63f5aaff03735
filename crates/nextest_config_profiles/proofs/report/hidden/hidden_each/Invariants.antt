use Rattle.std.proofs.Common.{map, take}
use Rattle.std.specs.List.{AllZip}
use Rattle.nextest_config_profiles.specs.Reach.{words_of}
use Rattle.nextest_config_profiles.specs.Report.Hidden.{IsHidden}
use Rattle.nextest_config_profiles.specs.Report.Standing.{standing_of}
use Rattle.nextest_config_profiles.proofs.report.hidden.hidden_each.Given as goal

-- those so far
abbrev pub invariant-loop-standing : goal.invariant-loop-standing
invariant-loop-standing l = AllZip (IsHidden l.fn.effective (words_of l.fn.keys))
    (map standing_of (take l.standing-index l.standings)) l.rows.items
