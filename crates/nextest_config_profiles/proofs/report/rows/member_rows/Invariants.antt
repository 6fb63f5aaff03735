use Rattle.std.proofs.Common.{map, take}
use Rattle.std.specs.List.{AllZip}
use Rattle.nextest_config_profiles.specs.Report.Rows.{at_of, IsMemberRow}
use Rattle.nextest_config_profiles.specs.Report.Setting.{member_of}
use Rattle.nextest_config_profiles.proofs.report.rows.member_rows.Given as goal

-- the keys so far
abbrev pub invariant-loop-member : goal.invariant-loop-member
invariant-loop-member l =
    AllZip (IsMemberRow (at_of l.fn.given)) (map member_of (take l.member-index l.members)) l.rows.items
