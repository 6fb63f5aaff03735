-- The visitor began with nothing, so it has what is found of all that is judged.
use Rattle.std.proofs.Common.{[]}
use Rattle.std.proofs.lemmas.Result.{IfOk-weaker}
use Rattle.toml.specs.View.{table_view}
use Rattle.nextest_config_lint.proofs.FoundValues.{all_are_found}
use Rattle.nextest_config_lint.proofs.document.findings.Goals as goal

pub returns : goal.returns
returns c =
    let members = table_view c.args.document.now in
    let has = c.in_ok-found.ensures c.new.result [] c.new.ensures.found in
    IfOk-weaker c.behind.result _ _ (λ findings whole. λ files by. all_are_found c.args.edition c.args.source.now files c.args.position members c.in_ok-found.found c.add_beside.new.findings.items findings.items
    (rw c.new.ensures.file at has.values)
    (rw (c.file_fields.ensures, c.new-unknown.ensures.items) at c.in_ok-add_beside.ensures)
    has.unknown
    (rw c.new.ensures.file at has.references files members (by, c.in_ok-setup_scripts.ensures))
    whole) c.behind.ensures
