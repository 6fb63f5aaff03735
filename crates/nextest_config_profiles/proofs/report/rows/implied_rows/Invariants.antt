use Rattle.std.proofs.Common.{map, take}
use Rattle.std.specs.List.{AllZip, filter}
use Rattle.nextest_config_profiles.specs.Report.Rows.{is_implied, IsImpliedRow}
use Rattle.nextest_config_profiles.specs.Report.Setting.{member_of, rule_of}
use Rattle.nextest_config_profiles.proofs.report.rows.implied_rows.Given as goal

-- those of the keys so far that may be absent
abbrev pub invariant-loop-member : goal.invariant-loop-member
invariant-loop-member l = AllZip (IsImpliedRow (rule_of l.fn.setting).keys)
    (filter is_implied (map member_of (take l.member-index l.members))) l.rows.items
