use Rattle.std.proofs.Common.{refl}
use Rattle.toml_spans.proofs.Styled.{styled_then}
use Rattle.nextest_config_values.proofs.identifier.error.write_named.Goals as goal

pub returns-clause-styled : goal.returns-clause-styled
returns-clause-styled g c = styled_then (λ flush. c.in_ok-write_str.ensures.styled flush refl) c.fmt.ensures.styled
