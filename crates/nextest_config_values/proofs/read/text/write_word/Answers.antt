use Rattle.std.proofs.Common.{refl}
use Rattle.toml_spans.proofs.Styled.{styled_then}
use Rattle.nextest_config_values.proofs.read.text.write_word.Goals as goal

pub returns-clause-styled : goal.returns-clause-styled
returns-clause-styled g c =
    styled_then (λ flush. c.in_ok-write_str.ensures.styled flush refl)
    (styled_then (λ flush. c.in_ok-write_str-2.ensures.styled flush refl) c.write_str-3.ensures.styled)
