use Rattle.nextest_config_elements.proofs.Levels.{each_element, each_name, elements_or_table, features_table, parts_nothing, row, table, table_by_backoff, versions_table}
use Rattle.std.proofs.Common.{refl}
use Rattle.nextest_config_elements.proofs.keys.file_fields.Goals as goal

-- the fields of a profile as in the answer for these alone
pub returns : goal.returns
returns c =
    row _ _ _ _ (versions_table _ _ (search (row, parts_nothing) depth 20 fits 900)) (row _ _ _ _ (features_table _ _ (search (row, parts_nothing) depth 20 fits 900))
    (row _ _ _ _ (each_name _ _ _ (table _ _
    (row _ _ _ _ (search (row, table_by_backoff, parts_nothing) depth 20 fits 900) (row _ _ _ _ parts_nothing (row _ _ _ _ parts_nothing
    (row _ _ _ _ (search (row, table, parts_nothing) depth 20 fits 900) (row _ _ _ _ (search (row, table, parts_nothing) depth 20 fits 900)
    (row _ _ _ _ (search (row, table, parts_nothing) depth 20 fits 900) (row _ _ _ _ parts_nothing (row _ _ _ _ (search (row, table, parts_nothing) depth 20 fits 900)
    (row _ _ _ _ (search (row, table, parts_nothing) depth 20 fits 900) (row _ _ _ _ (each_element _ _ _ (table _ _ (search (row, table, table_by_backoff, each_element, parts_nothing) depth 60 fits 4000)))
    (search (row, table, each_element, parts_nothing) depth 60 fits 4000)))))))))))))
    (row _ _ _ _ (table _ _ (search (row, parts_nothing) depth 20 fits 900)) (row _ _ _ _ (each_name _ _ _ (table _ _ (search (row, parts_nothing) depth 20 fits 900)))
    (row _ _ _ _ (table _ _ (row _ _ _ _ (each_name _ _ _ (table _ _ (search (row, table, each_name, each_element, elements_or_table, parts_nothing) depth 60 fits 4000))) (row _ _ _ _ (each_name _ _ _ (table _ _ (search (row, each_name, each_element, elements_or_table, parts_nothing) depth 60 fits 4000))) refl)))
    (row _ _ _ _ (each_name _ _ _ (table _ _ (search (row, table, each_name, each_element, elements_or_table, parts_nothing) depth 60 fits 4000))) refl))))))
