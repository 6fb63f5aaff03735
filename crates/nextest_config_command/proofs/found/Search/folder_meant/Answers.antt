use Rattle.std.proofs.Common.{None, refl, Some}
use Rattle.nextest_config_command.proofs.found.Search.folder_meant.Goals as goal

pub returns-in_ok-meant-in-Some : goal.returns-in_ok-meant-in-Some
returns-in_ok-meant-in-Some g c = (Some c.in-Some.folder.now, rw c.in-Some.is at c.folder_of_config.ensures, c.in_ok-meant-in-Some.ensures)

pub returns-in-None : goal.returns-in-None
returns-in-None g c = (None, rw c.in-None.is at c.folder_of_config.ensures, refl)
