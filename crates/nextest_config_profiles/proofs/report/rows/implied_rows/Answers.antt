use Rattle.std.proofs.Common.{subst}
use Rattle.std.proofs.lemmas.List.{take_all}
use Rattle.std.specs.List.{AllZip, filter}
use Rattle.nextest_config_profiles.specs.Report.Rows.{is_implied, IsImpliedRow}
use Rattle.nextest_config_profiles.specs.Report.Setting.{member_of, rule_of}
use Rattle.nextest_config_profiles.proofs.Filtered.{more_dropped, more_kept}
use Rattle.nextest_config_profiles.proofs.report.rows.implied_rows.Goals.{else-is_implied, then-is_implied+in_ok-implied_row+in_ok-push}
use Rattle.nextest_config_profiles.proofs.report.rows.implied_rows.Goals as goal

pub loop-member-preserved : goal.loop-member-preserved
loop-member-preserved c =
    let members = c.members-members.result.now in
    let i = c.loop-member.member-index in
    let R = IsImpliedRow (rule_of c.args.setting).keys in
    elim c.if-is_implied.branch [
      | then-is_implied+in_ok-implied_row+in_ok-push w ↦ rw (w.rows-is, w.in_ok-push.ensures.items)
          (more_kept R is_implied member_of members i _ _ _ c.loop-member-test.true _ c.is_implied.ensures w.if-is_implied.true c.loop-member.invariant w.in_ok-implied_row.ensures)
      | else-is_implied w ↦ rw w.rows-is
          (more_dropped R is_implied member_of members i _ _ c.loop-member-test.true _ c.is_implied.ensures w.if-is_implied.false c.loop-member.invariant)
    ]

pub returns : goal.returns
returns c = subst (λ members. AllZip (IsImpliedRow (rule_of c.args.setting).keys) (filter is_implied members) c.loop-member.rows.items) c.members-members.ensures
    (rw (take_all c.loop-member.member-index c.members-members.result.now c.loop-member-test.false) at c.loop-member.invariant)
