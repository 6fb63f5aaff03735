use Rattle.toml.specs.View.{table_view}
use Rattle.nextest_config_lint.proofs.Leading.{findings_lead}
use Rattle.nextest_config_lint.proofs.Places.{all_at_ranges, all_in}
use Rattle.nextest_config_lint.proofs.file.located_in_document.Goals as goal

pub locate_all-requires : goal.locate_all-requires
locate_all-requires c =
    let (files, by) = c.requires.defined in
    let found = c.in_ok-findings.ensures files by in
    let top = table_view c.args.document.now in
    let leads = findings_lead c.args.edition c.args.source.now files c.args.position top found.0 found.1 in
    record { read = c.requires.read; here = all_in top _ found.0 found.2 leads }

pub returns : goal.returns
returns c = λ files by.
    let found = c.in_ok-findings.ensures files by in
    record {
      all_found = found.0;
      are_findings = found.1;
      before = c.in_ok-located.located.items;
      at_ranges = all_at_ranges c.args.text.now _ _ c.in_ok-located.ensures found.0 found.2;
      sorted = c.in_ok-sort_by_place.ensures;
    }
