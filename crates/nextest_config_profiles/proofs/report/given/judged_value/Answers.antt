use Rattle.std.proofs.Common.{None, inr, refl}
use Rattle.std.proofs.lemmas.Bool.{false≢true}
use Rattle.nextest_config_profiles.proofs.report.given.judged_value.Goals as goal

pub returns-in-None : goal.returns-in-None
returns-in-None c =
    let whole = rw c.in-None.is at c.in_ok-rest.ensures in
    inr (λ converted. false≢true (rw c.if-is_converted_at.false at c.is_converted_at.ensures.1 converted), (None, whole, (refl, refl)))
