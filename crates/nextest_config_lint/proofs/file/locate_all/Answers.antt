use Rattle.toml_spans.specs.Index.{IsIndexOf, ranges_in}
use Rattle.toml_spans.specs.Ranges.{HaveEntries}
use Rattle.toml.specs.View.{table_view}
use Rattle.nextest_config_lint.proofs.Places.{all_in_range}
use Rattle.nextest_config_lint.proofs.file.locate_all.Goals as goal

pub locate_all_by-requires : goal.locate_all_by-requires
locate_all_by-requires c =
    let index = c.in-Some.index in
    let top = table_view c.args.document.now in
    let of_text : IsIndexOf c.args.text.now index = rw c.in-Some.is at c.in_ok-index.ensures.of_text in
    let entries : HaveEntries top (ranges_in index) = (rw c.in-Some.is at c.in_ok-index.ensures.entries) top c.requires.read in
    record { file = record { of_text = of_text; read = c.requires.read }; ranges = all_in_range top index entries c.args.findings.items c.requires.here }
