use Rattle.nextest_config_lint.proofs.DefinedNames.{names_added}
use Rattle.nextest_config_lint.proofs.defined.names_of_file.Goals as goal

pub returns : goal.returns
returns c = names_added _ _ (rw c.new-names.ensures.empty at c.in_ok-add_names.ensures)
