use Rattle.std.proofs.Common.{subst}
use Rattle.std.proofs.lemmas.List.{take_all}
use Rattle.std.specs.List.{AllZip}
use Rattle.nextest_config_profiles.specs.Report.Rows.{at_of, IsMemberRow}
use Rattle.nextest_config_profiles.specs.Report.Setting.{member_of}
use Rattle.nextest_config_profiles.proofs.Zipped.{zip_more}
use Rattle.nextest_config_profiles.proofs.report.rows.member_rows.Goals as goal

pub loop-member-preserved : goal.loop-member-preserved
loop-member-preserved c = rw c.in_ok-push.ensures.items
    (zip_more (IsMemberRow (at_of c.args.given)) member_of c.members-members.result.now c.loop-member.member-index _ _ _ c.loop-member-test.true c.loop-member.invariant c.in_ok-member_row.ensures)

pub returns : goal.returns
returns c = subst (λ members. AllZip (IsMemberRow (at_of c.args.given)) members c.loop-member.rows.items) c.members-members.ensures
    (rw (take_all c.loop-member.member-index c.members-members.result.now c.loop-member-test.false) at c.loop-member.invariant)
