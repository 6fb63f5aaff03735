use Rattle.nextest_config_elements.proofs.Levels.{each_element, parts_nothing, row, table, table_by_backoff}
use Rattle.nextest_config_elements.proofs.keys.override_fields.Goals as goal

pub returns : goal.returns
returns c = search (row, table, table_by_backoff, each_element, parts_nothing) depth 60 fits 4000
