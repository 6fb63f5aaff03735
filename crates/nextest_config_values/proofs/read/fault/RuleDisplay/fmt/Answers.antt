use Rattle.std.proofs.Common.{refl}
use Rattle.toml_spans.proofs.Styled.{styled_then}
use Rattle.nextest_config_values.proofs.read.fault.RuleDisplay.fmt.Goals as goal

pub returns-in_ok-write_str-in-NotVersion-clause-styled : goal.returns-in_ok-write_str-in-NotVersion-clause-styled
returns-in_ok-write_str-in-NotVersion-clause-styled g c =
    rw (c.in-NotVersion.is, ← c.as_str.ensures.value)
    (styled_then (λ flush. c.in_ok-write_str-in-NotVersion.ensures.styled flush refl) c.fmt.ensures.styled)
