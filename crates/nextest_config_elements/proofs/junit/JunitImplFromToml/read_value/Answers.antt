use Rattle.std.proofs.Common.{rules, sym}
use Rattle.toml.specs.Data.{Members}
use Rattle.toml.specs.View.{table_view}
use Rattle.nextest_config_values.proofs.Faults.{read_whole}
use Rattle.nextest_config_elements.specs.Junit.{HasText, junit_table, JunitTable}
use Rattle.nextest_config_elements.proofs.junit.JunitImplFromToml.read_value.Goals as goal

-- what takes memory is a text
has_text : (table : Members) (said : JunitTable) → junit_table.means table said → junit_table.takes_memory table → HasText said
has_text table said meant takes = search rules

pub returns-in-Some-clause-texts : goal.returns-in-Some-clause-texts
returns-in-Some-clause-texts c said meant none =
    let table = table_view c.in-Some.table.now in
    let says : junit_table.means table said = rw (sym c.in-Some.ensures) at meant in
    read_whole junit_table table c.read_table.result c.read_table.ensures.refused said says (λ takes. none (has_text table said says takes))
