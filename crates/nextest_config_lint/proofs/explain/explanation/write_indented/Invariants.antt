use Rattle.std.proofs.Common.{flat_map, map}
use Rattle.std.specs.Fmt.{HasWritten, IsPlainFormatter}
use Rattle.nextest_config_lint.specs.Explain.Explanation.{indented_line}
use Rattle.nextest_config_lint.proofs.explain.explanation.write_indented.Given as goal

-- the lines so far are written
abbrev pub invariant-loop-line : goal.invariant-loop-line
invariant-loop-line g l = IsPlainFormatter l.fn.f → HasWritten g.W.Write.write_str_gives l.fn.f (flat_map indented_line (map (λ line. line.now) l.yielded)) l.f
