use Rattle.nextest_config_elements.proofs.Levels.{parts_nothing, row}
use Rattle.nextest_config_elements.proofs.keys.override_junit_fields.Goals as goal

pub returns : goal.returns
returns c = search (row, parts_nothing) depth 20 fits 100
