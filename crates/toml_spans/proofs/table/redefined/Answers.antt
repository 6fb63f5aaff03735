use Rattle.toml_spans.proofs.Views.{tree_of-Table, tree_of-Tables, trees_from-push}
use Rattle.toml_spans.proofs.table.redefined.Goals as goal

pub returns-in_ok-push-in-Element-Tables : goal.returns-in_ok-push-in-Element-Tables
returns-in_ok-push-in-Element-Tables c =
    rw (c.in-Element-Tables.is-0, c.in-Element-Tables.is-1, tree_of-Tables, tree_of-Tables, c.in_ok-push-in-Element-Tables.ensures.items, trees_from-push, tree_of-Table, c.new.ensures.empty)
