use Rattle.std.proofs.Common.{arith}
use Rattle.std.proofs.lemmas.Grind.{common_steps}
use Rattle.toml_spans.proofs.Views.{pairs_of-insert_entry}
use Rattle.toml_spans.proofs.table.insert.Goals as goal

pub returns : goal.returns
returns c = grind (arith, common_steps, pairs_of-insert_entry)
