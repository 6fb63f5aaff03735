use Rattle.std.proofs.Common.{None}
use Rattle.toml_spans.specs.Index.{IsSpanOf, ranges_in}
use Rattle.nextest_config_lint.proofs.Places.{has_span, last_of_two}
use Rattle.nextest_config_lint.specs.File.{range_of, reported_range}
use Rattle.nextest_config_lint.proofs.file.span_of.Goals as goal

pub unreachable-requires : goal.unreachable-requires
unreachable-requires c =
    let file = c.args.file in
    let (found, reported, some) = c.requires.range in
    let none : IsSpanOf file.text.now (range_of (ranges_in file.index.now) found) None = rw c.in-None-2.is at (c.in_ok-span-in-None.ensures file.text.now found c.requires.file.of_text reported) in
    has_span file.text.now (range_of (ranges_in file.index.now) found) some none

pub returns-in-Some-2 : goal.returns-in-Some-2
returns-in-Some-2 c found reported =
    let file = c.args.file in
    let none : IsSpanOf file.text.now (reported_range file.text.now (ranges_in file.index.now) found.path found.kind) None = rw c.in-None.is at (c.reported_span.ensures found reported) in
    last_of_two file.text.now _ _ c.in-Some-2.span none (rw c.in-Some-2.is at (c.in_ok-span-in-None.ensures file.text.now found c.requires.file.of_text reported))
