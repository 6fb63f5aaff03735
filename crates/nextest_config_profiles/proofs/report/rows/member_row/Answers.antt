use Rattle.std.proofs.Common.{◌∙◌, ap, subst}
use Rattle.nextest_config_profiles.specs.Reach.{words_of}
use Rattle.nextest_config_profiles.specs.Report.Rows.{at_of, IsLastAt, IsFoundMember}
use Rattle.nextest_config_profiles.specs.Report.Setting.{member_of}
use Rattle.nextest_config_profiles.proofs.report.rows.member_row.Goals as goal

pub returns : goal.returns
returns c =
    let keys = ap words_of c.as_slice.ensures.value ∙ c.in_ok-keys.ensures in (
      c.in_ok-found.found,
      subst (λ keys. IsLastAt c.args.given.effective.now c.args.given.profile.now keys c.in_ok-found.found) keys c.in_ok-found.ensures,
      subst (λ keys. IsFoundMember (at_of c.args.given) (member_of c.args.member.now) keys c.in_ok-found.found c.in_ok-row.row) c.in_ok-keys.ensures c.in_ok-row.ensures,
    )
