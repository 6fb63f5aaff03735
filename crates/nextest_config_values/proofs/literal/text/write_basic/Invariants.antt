use Rattle.std.proofs.Common.{codes, ◌++◌, flat_map}
use Rattle.std.specs.Fmt.{HasWritten, IsPlainFormatter}
use Rattle.nextest_config_values.specs.Literal.Text.{basic_character}
use Rattle.nextest_config_values.proofs.literal.text.write_basic.Given as goal

-- the opening quote and the characters so far are written
abbrev pub invariant-loop-c : goal.invariant-loop-c
invariant-loop-c g l = IsPlainFormatter l.fn.f → HasWritten g.W.Write.write_str_gives l.fn.f
    (codes "\"" ++ flat_map basic_character l.yielded) l.f
