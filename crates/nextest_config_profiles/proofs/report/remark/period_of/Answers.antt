use Rattle.std.proofs.Common.{◌∙◌, ap, subst}
use Rattle.nextest_config_profiles.specs.Reach.{words_of}
use Rattle.nextest_config_profiles.specs.Report.At.{IsLastAt}
use Rattle.nextest_config_profiles.proofs.report.remark.period_of.Goals as goal

pub returns : goal.returns
returns c =
    let keys = ap words_of c.as_slice.ensures.value ∙ c.in_ok-keys.ensures in
    (c.in_ok-found.found, subst (λ keys. IsLastAt c.args.given.effective.now c.args.given.profile.now keys c.in_ok-found.found) keys c.in_ok-found.ensures, c.period_found.ensures)
