use Rattle.std.proofs.lemmas.Bool.{le-leb, leb-true}
use Rattle.nextest_config_values.specs.Duration.{never_duration_and_fault, one_duration}
use Rattle.nextest_config_lint.proofs.hints.durations.is_long.Goals as goal

pub returns-in-Ok : goal.returns-in-Ok
returns-in-Ok c = (
  λ long. (_, c.in-Ok.ensures.accepted, rw (← c.as_nanos.ensures) (leb-true _ _ long)),
  λ some. le-leb _ _ (rw (c.as_nanos.ensures, one_duration c.args.text.now _ some.0 c.in-Ok.ensures.accepted some.1) some.2),
)

pub returns-in-Err : goal.returns-in-Err
returns-in-Err c = (
  λ no. cc no,
  λ some. absurd (never_duration_and_fault c.args.text.now some.0 c.in-Err.field-0 some.1 c.in-Err.ensures.refused),
)
