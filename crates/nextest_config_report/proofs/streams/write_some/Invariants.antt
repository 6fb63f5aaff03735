use Rattle.std.proofs.Common.{◌≡◌, ◌⊎◌}
use Rattle.std.specs.Io.KnownBytes.{Keeps}
use Rattle.nextest_config_report.proofs.streams.write_some.Given as goal

abbrev pub invariant-loop : goal.invariant-loop
invariant-loop g l =
    Keeps (g.S.Stream.contents l.fn.stream) (g.S.Stream.contents l.stream)
    × (g.S.Stream.may_have_failed l.fn.stream → g.S.Stream.may_have_failed l.stream)
    × ((l.counter ≡ 0) ⊎ g.S.Stream.may_have_failed l.stream)
