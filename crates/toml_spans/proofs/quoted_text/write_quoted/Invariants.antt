use Rattle.std.proofs.Common.{codes, ◌++◌, flat_map}
use Rattle.std.specs.Fmt.{HasWrittenStyled, IsFlush}
use Rattle.toml_spans.specs.QuotedText.{quoted_character}
use Rattle.toml_spans.proofs.quoted_text.write_quoted.Given as goal

-- the opening quote and the characters so far are written
abbrev pub invariant-loop-c : goal.invariant-loop-c
invariant-loop-c g l = IsFlush l.fn.f → HasWrittenStyled g.W.Write.write_str_gives l.fn.f
    (codes "\"" ++ flat_map quoted_character l.yielded) l.f
