use Rattle.nextest_config_values.specs.Duration.{never_duration_and_fault}
use Rattle.nextest_config_lint.proofs.hints.durations.is_duration.Goals as goal

pub returns-in-Err : goal.returns-in-Err
returns-in-Err c = (
  λ no. cc no,
  λ some. absurd (never_duration_and_fault c.args.text.now some.0 c.in-Err.field-0 some.1 c.in-Err.ensures.refused),
)
