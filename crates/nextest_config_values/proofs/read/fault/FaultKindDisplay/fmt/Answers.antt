use Rattle.std.proofs.Common.{refl}
use Rattle.toml_spans.proofs.Styled.{styled_then}
use Rattle.nextest_config_values.proofs.read.fault.FaultKindDisplay.fmt.Goals as goal

pub returns-in-InvalidValue-clause-writes : goal.returns-in-InvalidValue-clause-writes
returns-in-InvalidValue-clause-writes g c = rw (c.in-InvalidValue.is, ← c.as_str-in-InvalidValue.ensures.value) c.write_mismatch-in-InvalidValue.ensures.writes

pub returns-in-UnknownVariant-clause-writes : goal.returns-in-UnknownVariant-clause-writes
returns-in-UnknownVariant-clause-writes g c = rw (c.in-UnknownVariant.is, ← c.as_str-in-UnknownVariant.ensures.value) c.write_unknown.ensures.writes

pub returns-in-UnknownVariant-clause-styled : goal.returns-in-UnknownVariant-clause-styled
returns-in-UnknownVariant-clause-styled g c = rw (c.in-UnknownVariant.is, ← c.as_str-in-UnknownVariant.ensures.value) c.write_unknown.ensures.styled

pub returns-in-UnknownField-clause-writes : goal.returns-in-UnknownField-clause-writes
returns-in-UnknownField-clause-writes g c = rw (c.in-UnknownField.is, ← c.as_str-in-UnknownField.ensures.value) c.write_unknown-in-UnknownField.ensures.writes

pub returns-in_ok-write_str-in-MissingField-2-clause-styled : goal.returns-in_ok-write_str-in-MissingField-2-clause-styled
returns-in_ok-write_str-in-MissingField-2-clause-styled g c = rw (c.in-MissingField.is, ← c.as_str-in-MissingField.ensures.value)
    (styled_then (λ flush. c.in_ok-write_str-in-MissingField.ensures.styled flush refl)
    (styled_then (λ flush. c.in_ok-write_str-in-MissingField-2.ensures.styled flush refl) c.write_str-in-MissingField-2.ensures.styled))
