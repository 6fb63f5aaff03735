use Rattle.std.proofs.Common.{refl}
use Rattle.toml_spans.proofs.Styled.{styled_append}
use Rattle.nextest_config_elements.proofs.max_fail.write_named.Goals as goal

pub returns-clause-styled : goal.returns-clause-styled
returns-clause-styled g c flush ok =
    let took = g.W.Write.write_str_gives in
    let first = c.in_ok-write_str.ensures.styled flush refl in
    let second = c.in_ok-write_str-2.ensures.styled first.flush refl in
    styled_append took _ _ _ _ _ first (styled_append took _ _ _ _ _ second (c.write_str-3.ensures.styled second.flush ok))
