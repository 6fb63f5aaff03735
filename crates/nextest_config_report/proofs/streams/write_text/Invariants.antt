use Rattle.std.proofs.Common.{length}
use Rattle.nextest_config_report.specs.Streams.{AddsUpTo}
use Rattle.nextest_config_report.proofs.streams.write_text.Given as goal

abbrev pub invariant-loop-rest : goal.invariant-loop-rest
invariant-loop-rest g l =
    AddsUpTo (g.S.Stream.contents l.fn.stream) (g.S.Stream.contents l.stream) l.fn.text l.rest
    × (g.S.Stream.may_have_failed l.fn.stream → g.S.Stream.may_have_failed l.stream)

abbrev pub decreases-loop-rest : goal.decreases-loop-rest
decreases-loop-rest g l = length l.rest
