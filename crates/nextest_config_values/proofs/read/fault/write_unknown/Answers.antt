use Rattle.std.proofs.Common.{refl}
use Rattle.toml_spans.proofs.Styled.{plainly, styled_then}
use Rattle.nextest_config_values.proofs.read.fault.write_unknown.Goals as goal

pub returns-clause-styled : goal.returns-clause-styled
returns-clause-styled g c =
    styled_then (λ flush. c.in_ok-write_str.ensures.styled flush refl)
    (styled_then (λ flush. c.in_ok-write_str-2.ensures.styled flush refl)
    (styled_then (λ flush. c.in_ok-write_str-3.ensures.styled flush refl) c.write_words.ensures.styled))

pub returns-clause-writes : goal.returns-clause-writes
returns-clause-writes g c p ok = plainly p (returns-clause-styled g c p.flush ok)
