use Rattle.std.proofs.Common.{◌∙◌, inr, refl, sym}
use Rattle.std.proofs.lemmas.Bool.{false≢true}
use Rattle.nextest_config_profiles.proofs.report.remark.remark_of.Goals as goal

pub returns : goal.returns
returns c = inr (λ limit. false≢true (rw c.if-is_no_limit.false at c.is_no_limit.ensures.1 limit), rw (sym c.is_number_of_periods.ensures ∙ c.if-is_number_of_periods.false) refl)
