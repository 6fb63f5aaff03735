use Rattle.nextest_config_elements.proofs.Levels.{each_element, parts_nothing, row, table, table_by_backoff}
use Rattle.nextest_config_elements.proofs.keys.profile_fields.Goals as goal

-- the fields behind those of overrides by themselves, and those in front of them row by row
pub returns : goal.returns
returns c =
    row _ _ _ _ (search (row, table_by_backoff, parts_nothing) depth 20 fits 900) (row _ _ _ _ parts_nothing (row _ _ _ _ parts_nothing
    (row _ _ _ _ (search (row, table, parts_nothing) depth 20 fits 900) (row _ _ _ _ (search (row, table, parts_nothing) depth 20 fits 900)
    (row _ _ _ _ (search (row, table, parts_nothing) depth 20 fits 900) (row _ _ _ _ parts_nothing (row _ _ _ _ (search (row, table, parts_nothing) depth 20 fits 900)
    (row _ _ _ _ (search (row, table, parts_nothing) depth 20 fits 900) (row _ _ _ _ (each_element _ _ _ (table _ _ (search (row, table, table_by_backoff, each_element, parts_nothing) depth 60 fits 4000)))
    (search (row, table, each_element, parts_nothing) depth 60 fits 4000))))))))))
