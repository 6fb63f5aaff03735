use Rattle.std.proofs.Common.{refl}
use Rattle.nextest_config_profiles.specs.declared.report.given.Given.TheVariants.{Fault, NotJudged, Nothing, Value}
use Rattle.nextest_config_profiles.proofs.report.given.given_for.Goals as goal

pub returns-in_ok-judged-in-Fault : goal.returns-in_ok-judged-in-Fault
returns-in_ok-judged-in-Fault c =
    (Fault c.in-Fault.profile c.in-Fault.fault, rw c.in-Fault.is at c.in_ok-profile.ensures, c.in_ok-judged-in-Fault.ensures)

pub returns-in-Value : goal.returns-in-Value
returns-in-Value c = (Value c.in-Value.profile, rw c.in-Value.is at c.in_ok-profile.ensures, refl)

pub returns-in-NotJudged : goal.returns-in-NotJudged
returns-in-NotJudged c = (NotJudged c.in-NotJudged.profile, rw c.in-NotJudged.is at c.in_ok-profile.ensures, refl)

pub returns-in-Nothing : goal.returns-in-Nothing
returns-in-Nothing c = (Nothing, rw c.in-Nothing.is at c.in_ok-profile.ensures, refl)
