use Rattle.std.proofs.Common.{◌≡◌, ◌∙◌, IsSome, map, refl, Some, sym}
use Rattle.toml.specs.Parse.{parse_document}
use Rattle.toml.specs.View.{table_view}
use Rattle.toml_spans.specs.Line.{found_in}
use Rattle.toml_spans.specs.Step.{step_of}
use Rattle.nextest_config.specs.NextestVersion.{place_of}
use Rattle.nextest_config_command.proofs.AskedVersions.{asked_here, asks_nowhere}
use Rattle.nextest_config_command.specs.Asked.{IsRangeAt}
use Rattle.nextest_config_command.proofs.asked.asked_by.Goals as goal

pub returns-in-Some-2 : goal.returns-in-Some-2
returns-in-Some-2 c =
    let at_place : c.args.file.now.place ≡ place_of c.args.source.now = sym c.source.ensures ∙ c.if-not-is_same_place.ensures.0 refl in
    let reads : parse_document c.in-Some.text.now ≡ Some (table_view c.in-Some.document.now) = rw c.in-Some.ensures.0.1 c.in-Some.ensures.1 in
    let range : IsRangeAt c.in-Some.text.now (map step_of c.in_ok-path.path.items) c.in-Some-2.span = rw (c.as_slice.ensures.value, c.in-Some-2.is) at c.in_ok-span.ensures.range in
    let leads : IsSome (found_in (table_view c.in-Some.document.now) (map step_of c.in_ok-path.path.items)) =
    ((rw (c.as_slice.ensures.value, c.in-Some-2.is) at c.in_ok-span.ensures.there) (table_view c.in-Some.document.now) reads).0 refl in
    asked_here c.args.role _ _ c.args.file.now c.in-Some.text.now (table_view c.in-Some.document.now) at_place c.in-Some.ensures c.in_ok-path.ensures leads range

pub returns-in-None : goal.returns-in-None
returns-in-None c =
    let reads : parse_document c.in-Some.text.now ≡ Some (table_view c.in-Some.document.now) = rw c.in-Some.ensures.0.1 c.in-Some.ensures.1 in
    let there = (rw (c.as_slice.ensures.value, c.in-None.is) at c.in_ok-span.ensures.there) (table_view c.in-Some.document.now) reads in
    asks_nowhere c.args.role _ c.args.file.now (table_view c.in-Some.document.now) (map step_of c.in_ok-path.path.items) c.in-Some.ensures.1 c.in_ok-path.ensures (λ leads. cc (there.1 leads))
