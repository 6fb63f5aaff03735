use Rattle.std.proofs.Common.{◌≡◌, Some, rules}
use Rattle.toml.specs.Data.{as_table}
use Rattle.toml.specs.View.{table_view, view}
use Rattle.nextest_config_lint.proofs.traversal.backoff_of.Goals as goal

pub returns : goal.returns
returns c =
    let held : as_table (view c.args.value.now) ≡ Some (table_view c.in_ok-as_table.field-0.now) = search rules in
    rw held c.of_table.ensures
