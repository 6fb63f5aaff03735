use Rattle.std.proofs.Common.{refl, sym}
use Rattle.nextest_config_values.proofs.Faults.{refused_by}
use Rattle.nextest_config_values.specs.Duration.{duration_in, never_duration_and_fault}
use Rattle.nextest_config_values.proofs.duration.DurationFromToml.read_value.Goals as goal

pub returns-in-Err-clause-refused : goal.returns-in-Err-clause-refused
returns-in-Err-clause-refused c =
    rw (sym c.in-Some.ensures) (refused_by (duration_in c.in-Some.text.now) _ _ c.no_duration.result
    ((λ n d. never_duration_and_fault c.in-Some.text.now n c.in-Err.field-0 d c.in-Err.ensures.refused), refl) c.no_duration.ensures)

pub returns-in-Ok-clause-meant : goal.returns-in-Ok-clause-meant
returns-in-Ok-clause-meant c = rw (sym c.in-Some.ensures) c.in-Ok.ensures.accepted
