use Rattle.nextest_config_command.proofs.Walks.{unread_folder}
use Rattle.nextest_config_command.proofs.found.Search.find_in_folder.Goals as goal

pub returns-in-Contents-clause-unread : goal.returns-in-Contents-clause-unread
returns-in-Contents-clause-unread g c =
    unread_folder (g.F.Files.holds c.args.self.now.files.now) c.args.path.now c.in-Contents.field-0.items c.unread.result (rw c.in-Contents.is at c.in_ok-read.ensures) c.unread.ensures
